-- The blocks that are needed, one after another.
use Rattle.std.proofs.Common.{◌≡◌, ℕ, zero, suc, ◌+◌, ◌≤◌, Option, Some, None, List, [], ◌∷◌, ◌++◌, length, take, drop, refl, sym, ap, ◌∙◌, arith, append-nil}
use Rattle.std.specs.Prelude.{count_by, option_map, slice_get}
use Rattle.std.proofs.Math.Dec.{eqb-suc-zero}
use Rattle.std.proofs.lemmas.List.{take_all, take_more}
use Rattle.std.proofs.lemmas.List.Concat.{flat_map-append}
use Rattle.std.proofs.lemmas.Option.{get_or_from_slice_get, slice_get_within}
use Rattle.block_summary.specs.Blocks.{block_at}
use Rattle.cell_types.specs.Value.{CellValue}
use Rattle.typed_trees.specs.TypedTree.{TruthExprOf}
use Rattle.table_store.specs.Block.{block_of}
use Rattle.table_store.specs.Table.{TableOf}
use Rattle.query_plan.specs.Plan.{PlanOf, needed}
use Rattle.query_plan.specs.Scan.{rows_of_blocks, up_to}
use Rattle.query_meaning.specs.Filter.{passes_each}
use Rattle.query_exec.specs.Run.{handed_block, handed_rows, next_block, wanted}
use Rattle.query_exec.specs.Sink.{room_behind}
use Rattle.query_exec.proofs.ConditionLemmas.{none_mapped}

-- ---- lists

-- what stands at a place stands first in the rest from there
pub first_left : {X : Type 0} (xs : List X) (i : ℕ) → slice_get (drop i xs) 0 ≡ slice_get xs i
first_left xs zero = refl
first_left [] (suc i) = refl
first_left (x ∷ xs) (suc i) = first_left xs i

pub one_taken : {X : Type 0} (xs : List X) (i : ℕ) (x : X) → slice_get xs i ≡ Some x → take (i + 1) xs ≡ take i xs ++ x ∷ []
one_taken xs i x is =
    take_more xs i x (slice_get_within xs i x is) ∙ ap (λ y. take i xs ++ y ∷ []) (get_or_from_slice_get xs i x x is)

pub none_behind : {X : Type 0} (xs : List X) (i : ℕ) → slice_get xs i ≡ None → length xs ≤ i
none_behind [] i is = omega arith
none_behind (x ∷ xs) zero is = absurd (cc)
none_behind (x ∷ xs) (suc i) is = let less = none_behind xs i is in omega (arith, less)

-- ---- the blocks up to a stop

-- the next block that is needed is the next of those that are left, where the stop looks on
pub wanted_is_first : (room : Option ℕ) (es : List TruthExprOf) (rows : List (List CellValue)) (left : List ℕ)
    → wanted room (slice_get left 0) ≡ slice_get (up_to room es rows left) 0
wanted_is_first None es rows left = refl
wanted_is_first (Some zero) es rows [] = refl
wanted_is_first (Some zero) es rows (n ∷ ns) = refl
wanted_is_first (Some (suc room)) es rows [] = refl
wanted_is_first (Some (suc room)) es rows (n ∷ ns) = rw (eqb-suc-zero room) refl

-- after it the stop looks for fewer rows
pub needed_behind : (room : Option ℕ) (es : List TruthExprOf) (rows : List (List CellValue)) (left : List ℕ) (n : ℕ)
    → slice_get (up_to room es rows left) 0 ≡ Some n
    → up_to (room_behind room (count_by (passes_each es) (block_at rows n))) es rows (drop 1 left) ≡ drop 1 (up_to room es rows left)
needed_behind None es rows left n is = refl
needed_behind (Some zero) es rows (m ∷ ns) n is = absurd (cc)
needed_behind (Some room) es rows [] n is = absurd (cc)
needed_behind (Some (suc room)) es rows (m ∷ ns) n is =
    let first = rw (eqb-suc-zero room) at is in
    let same : n ≡ m = cc in
    rw (eqb-suc-zero room, same) refl

-- ---- the blocks of a table

module _ (plan : PlanOf) (table : TableOf) (handed : ℕ) where
  -- the block that is handed in is the next that is needed
  pub is_block : (block : TableOf) → Some block ≡ handed_block plan table handed
      → (number : ℕ) × (next_block plan table handed ≡ Some number) × (block ≡ block_of table number)
  is_block block is = found (next_block plan table handed) refl is
    where
      found : (next : Option ℕ) → next_block plan table handed ≡ next → Some block ≡ option_map (block_of table) next
          → (number : ℕ) × (next_block plan table handed ≡ Some number) × (block ≡ block_of table number)
      found (Some number) next_is at = (number, next_is, cc)
      found None next_is at = absurd (cc)

  pub is_no_block : None ≡ handed_block plan table handed → next_block plan table handed ≡ None
  is_no_block is = none_mapped (block_of table) (next_block plan table handed) (sym is)

  -- the rows of one block more
  pub more_rows : (number : ℕ) → next_block plan table handed ≡ Some number
      → handed_rows plan table (handed + 1) ≡ handed_rows plan table handed ++ (block_of table number).rows
  more_rows number is =
      let blocks = needed plan table.rows in
      ap (rows_of_blocks table.rows) (one_taken blocks handed number is)
      ∙ flat_map-append (block_at table.rows) (take handed blocks) (number ∷ [])
      ∙ ap (λ rows. handed_rows plan table handed ++ rows) (append-nil (block_at table.rows number))

  -- where no other is needed, these are all
  pub all_rows : next_block plan table handed ≡ None → handed_rows plan table handed ≡ rows_of_blocks table.rows (needed plan table.rows)
  all_rows is = ap (rows_of_blocks table.rows) (take_all handed (needed plan table.rows) (none_behind (needed plan table.rows) handed is))
