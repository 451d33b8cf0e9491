-- Blocks after a stop have no say.
use Rattle.std.proofs.Common.{◌≡◌, ℕ, zero, suc, ◌+◌, ◌-◌, ◌^◌, Bool, true, false, cond, eqb, Option, Some, None, List, [], ◌∷◌, ◌++◌, length, take, drop, refl, sym, ap, ◌∙◌, arith}
use Rattle.std.specs.Prelude.{count_by, filter, nat_lt}
use Rattle.std.proofs.lemmas.Bool.Decides.{nat_tests}
use Rattle.std.proofs.lemmas.List.{drop-take}
use Rattle.std.proofs.lemmas.List.Elements.{filter-append}
use Rattle.std.proofs.lemmas.List.Sums.{length-filter}
use Rattle.block_summary.specs.Blocks.{block_at}
use Rattle.cell_types.specs.Value.{CellValue}
use Rattle.typed_trees.specs.TypedTree.{TruthExprOf}
use Rattle.query_meaning.specs.Meaning.{first_rows}
use Rattle.query_plan.specs.Plan.{NodeOf, filtering, nodes_result, slicing}
use Rattle.query_plan.specs.Push.{early_stop, room_of}
use Rattle.query_plan.specs.Scan.{reached, rows_of_blocks, up_to}
use Rattle.query_meaning.specs.Filter.{passes_each}
use Rattle.query_plan.proofs.BestLemmas.{when_some}
use Rattle.query_plan.proofs.MeaningLemmas.{under}
use Rattle.query_plan.proofs.PushLemmas.{behind}

abbrev Row : Type 0
Row = List CellValue

-- ---- the first rows that pass

no_front : (k : ℕ) (ys : List Row) → ys ≡ take k [] ++ ys
no_front zero ys = refl
no_front (suc k) ys = refl

take_join : (k : ℕ) (xs ys : List Row) → take k (xs ++ ys) ≡ take k xs ++ take (k - length xs) ys
take_join k [] ys = let e : k - 0 ≡ k = omega arith in ap (λ n. take n ys) (sym e) ∙ no_front k (take (k - 0) ys)
take_join zero (x ∷ xs) ys = let e : 0 - length (x ∷ xs) ≡ 0 = omega arith in ap (λ n. take n ys) (sym e)
take_join (suc k) (x ∷ xs) ys =
    let less : k - length xs ≡ suc k - length (x ∷ xs) = omega arith in
    ap (λ zs. x ∷ zs) (take_join k xs ys ∙ ap (λ n. take k xs ++ take n ys) less)

-- Up to the block of the row that is number k among those that pass, the first k rows that pass are the same.
module _ (es : List TruthExprOf) (rows : List Row) where
  abbrev kept : List ℕ → List Row
  kept numbers = filter (passes_each es) (rows_of_blocks rows numbers)

  take_reached : (k : ℕ) (numbers : List ℕ) → take k (kept (reached es k rows numbers)) ≡ take k (kept numbers)
  take_reached k [] = refl
  take_reached zero (n ∷ ns) = refl
  take_reached (suc k) (n ∷ ns) =
      let p = passes_each es in
      let block = block_at rows n in
      let more = reached es (suc k - count_by p block) rows ns in
      let some_wanted : eqb (suc k) 0 ≡ false = grind (arith, nat_tests) in
      let same : length (filter p block) ≡ count_by p block = length-filter p block in
      ap (λ c. take (suc k) (kept (cond c [] (n ∷ more)))) some_wanted
      ∙ ap (take (suc k)) (filter-append p block (rows_of_blocks rows more))
      ∙ take_join (suc k) (filter p block) (kept more)
      ∙ ap (λ m. take (suc k) (filter p block) ++ take (suc k - m) (kept more)) same
      ∙ ap (λ (xs : List Row). take (suc k) (filter p block) ++ xs) (take_reached (suc k - count_by p block) ns)
      ∙ ap (λ m. take (suc k) (filter p block) ++ take (suc k - m) (kept ns)) (sym same)
      ∙ sym (take_join (suc k) (filter p block) (kept ns))
      ∙ ap (take (suc k)) (sym (filter-append p block (rows_of_blocks rows ns)))

-- ---- a piece of them

piece_of_first : (skip top room : ℕ) (xs ys : List Row) → skip + top ≡ room → take room xs ≡ take room ys → take top (drop skip xs) ≡ take top (drop skip ys)
piece_of_first skip top room xs ys e same =
    sym (drop-take skip top xs) ∙ ap (λ n. drop skip (take n xs)) e ∙ ap (drop skip) same ∙ ap (λ n. drop skip (take n ys)) (sym e) ∙ drop-take skip top ys

abbrev IsSamePiece : ℕ → Option ℕ → Bool → List Row → List Row → Type 0
IsSamePiece skip top counts xs ys = (first_rows top (drop skip xs) ≡ first_rows top (drop skip ys)) × (counts ≡ false)

same_piece : (skip : ℕ) (top : Option ℕ) (counts : Bool) (room : ℕ) (xs ys : List Row) → room_of skip top counts ≡ Some room → take room xs ≡ take room ys
    → IsSamePiece skip top counts xs ys
same_piece skip None counts room xs ys e same = absurd (cc)
same_piece skip (Some zero) true room xs ys e same = absurd (cc)
same_piece skip (Some (suc top)) true room xs ys e same = absurd (cc)
same_piece skip (Some zero) false room xs ys e same = (refl, refl)
same_piece skip (Some (suc top)) false room xs ys e same =
    let all : skip + suc top ≡ room = when_some (nat_lt (skip + suc top) (2 ^ 64)) (skip + suc top) room e in
    (piece_of_first skip (suc top) room xs ys all same, refl)

-- where the first rows that pass are the same, so is what the steps after the filters make of them
same_behind : (ns : List NodeOf) (names : List (List ℕ)) (room : ℕ) (xs ys : List Row) → early_stop ns ≡ Some room → take room xs ≡ take room ys
    → nodes_result (behind ns) (under names None xs) ≡ nodes_result (behind ns) (under names None ys)
same_behind [] names room xs ys e same = absurd (cc)
same_behind (filtering f ∷ ns) names room xs ys e same = same_behind ns names room xs ys e same
same_behind (slicing s ∷ ns) names room xs ys e same =
    let piece = same_piece s.skip s.top s.counts room xs ys e same in
    ap (λ (c : Bool). nodes_result ns (under names (cond c (Some (length xs)) None) (first_rows s.top (drop s.skip xs)))) piece.1
    ∙ ap (λ (zs : List Row). nodes_result ns (under names None zs)) piece.0
    ∙ ap (λ (c : Bool). nodes_result ns (under names (cond c (Some (length ys)) None) (first_rows s.top (drop s.skip ys)))) (sym piece.1)
same_behind (n ∷ ns) names room xs ys e same = absurd (cc)

pub same_up_to : (ns : List NodeOf) (names : List (List ℕ)) (es : List TruthExprOf) (rows : List Row) (stop : Option ℕ) (numbers : List ℕ) → early_stop ns ≡ stop
    → nodes_result (behind ns) (under names None (filter (passes_each es) (rows_of_blocks rows (up_to stop es rows numbers))))
    ≡ nodes_result (behind ns) (under names None (filter (passes_each es) (rows_of_blocks rows numbers)))
same_up_to ns names es rows None numbers e = refl
same_up_to ns names es rows (Some room) numbers e =
    same_behind ns names room (kept es rows (reached es room rows numbers)) (kept es rows numbers) e (take_reached es rows room numbers)
