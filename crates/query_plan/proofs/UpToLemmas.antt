-- How far a scan reads.
use Rattle.std.proofs.Common.{◌≡◌, ◌↔◌, inl, inr, ℕ, zero, suc, ◌+◌, ◌-◌, ◌<◌, ◌≤◌, Bool, true, false, cond, eqb, Option, Some, None, List, [], ◌∷◌, ◌++◌, length, refl, sym, ap, ◌∙◌, subst, append-nil, arith}
use Rattle.std.specs.Prelude.{count_by, filter}
use Rattle.std.specs.List.{AllByRecursion, Contains, range_with_len}
use Rattle.std.proofs.lemmas.Bool.{cases_Bool, cases_lt}
use Rattle.std.proofs.lemmas.Bool.Decides.{nat_tests}
use Rattle.std.proofs.lemmas.List.Elements.{All-contains, All-from_recursion, Contains-append_right, Contains-get_or}
use Rattle.std.proofs.lemmas.List.Sums.{sum_by-append}
use Rattle.block_summary.specs.Blocks.{block_at, block_count}
use Rattle.cell_types.specs.Value.{CellValue}
use Rattle.typed_trees.specs.TypedTree.{TruthExprOf}
use Rattle.query_plan.specs.Scan.{ScanOf, TestOf, admits_all, admitted_blocks, reached, read_blocks, rows_of_blocks, up_to}
use Rattle.query_meaning.specs.Filter.{passes_each}
use Rattle.query_plan.proofs.NeededLemmas.{reached_each}

abbrev Row : Type 0
Row = List CellValue

-- ---- numbers that rise

from_low : (ok : ℕ → Bool) (low first count : ℕ) → low ≤ first → AllByRecursion (λ n. low ≤ n) (filter ok (range_with_len first count))
from_low ok low first zero h = tt
from_low ok low first (suc count) h =
    let more = from_low ok low (first + 1) count (omega (arith, h)) in
    elim (cases_Bool (ok first)) [
      | inl e ↦ rw e (h, more)
      | inr e ↦ rw e more
    ]

among : (low : ℕ) (before : List ℕ) (n : ℕ) (behind : List ℕ) → AllByRecursion (λ k. low ≤ k) (before ++ n ∷ behind) → low ≤ n
among low [] n behind h = h.0
among low (m ∷ ms) n behind h = among low ms n behind h.1

-- the numbers before one are less
below : (ok : ℕ → Bool) (first count : ℕ) (before : List ℕ) (n : ℕ) (behind : List ℕ) → filter ok (range_with_len first count) ≡ before ++ n ∷ behind
    → AllByRecursion (λ k. k < n) before
below ok first count [] n behind is = tt
below ok first zero (m ∷ ms) n behind is = absurd (cc)
below ok first (suc count) (m ∷ ms) n behind is =
    let others = filter ok (range_with_len (first + 1) count) in
    elim (cases_Bool (ok first)) [
      | inl e ↦
          let whole : first ∷ others ≡ m ∷ (ms ++ n ∷ behind) = sym (ap (λ (b : Bool). cond b (first ∷ others) others) e) ∙ is in
          let head : first ≡ m = cc in
          let tail : others ≡ ms ++ n ∷ behind = cc in
          let past = among (first + 1) ms n behind (subst (AllByRecursion (λ (k : ℕ). first + 1 ≤ k)) tail (from_low ok (first + 1) (first + 1) count (omega arith))) in
          (omega (arith, head, past), below ok (first + 1) count ms n behind tail)
      | inr e ↦ below ok (first + 1) count (m ∷ ms) n behind (sym (ap (λ (b : Bool). cond b (first ∷ others) others) e) ∙ is)
    ]

-- ---- a front of the blocks

module _ (es : List TruthExprOf) (rows : List Row) where
  -- how many rows of a block pass, and of blocks
  abbrev passing_at : ℕ → ℕ
  passing_at n = count_by (passes_each es) (block_at rows n)

  abbrev passing_in : List ℕ → ℕ
  passing_in numbers = count_by (passes_each es) (rows_of_blocks rows numbers)

  passing_more : (n : ℕ) (ns : List ℕ) → passing_in (n ∷ ns) ≡ passing_at n + passing_in ns
  passing_more n ns = sum_by-append (λ (row : Row). cond (passes_each es row) 1 0) (block_at rows n) (rows_of_blocks rows ns)

  reached_front : (room : ℕ) (numbers : List ℕ) → (left : List ℕ) × (numbers ≡ reached es room rows numbers ++ left)
  reached_front room [] = ([], refl)
  reached_front room (n ∷ ns) =
      let more = reached_front (room - passing_at n) ns in
      elim (cases_Bool (eqb room 0)) [
        | inl e ↦ rw e (n ∷ ns, refl)
        | inr e ↦ rw e (more.0, ap (λ (ms : List ℕ). n ∷ ms) more.1)
      ]

  -- where fewer rows pass before a block, it is reached
  reached_here : (room : ℕ) (before : List ℕ) (n : ℕ) (behind : List ℕ) → passing_in before < room → Contains (reached es room rows (before ++ n ∷ behind)) n
  reached_here room [] n behind h =
      let room_left : 0 < room = h in
      let some : eqb room 0 ≡ false = grind (arith, nat_tests, room_left) in
      rw some (Contains-get_or (n ∷ reached es (room - passing_at n) rows behind) 0 n (omega arith))
  reached_here room (m ∷ ms) n behind h =
      let room_left : 0 < room = omega (arith, h) in
      let some : eqb room 0 ≡ false = grind (arith, nat_tests, room_left) in
      let fewer : passing_in ms < room - passing_at m = omega (arith, h, passing_more m ms) in
      rw some (Contains-append_right (m ∷ []) (reached es (room - passing_at m) rows (ms ++ n ∷ behind)) n (reached_here (room - passing_at m) ms n behind fewer))

  -- where as many do, no more than the blocks before it are
  reached_before : (room : ℕ) (before : List ℕ) (n : ℕ) (behind : List ℕ) → room ≤ passing_in before
      → reached es room rows (before ++ n ∷ behind) ≡ reached es room rows before
  reached_before room [] n behind h =
      let no_room : room ≤ 0 = h in
      let none : eqb room 0 ≡ true = grind (arith, nat_tests, no_room) in
      rw none refl
  reached_before room (m ∷ ms) n behind h =
      let enough : room - passing_at m ≤ passing_in ms = omega (arith, h, passing_more m ms) in
      ap (λ (ns : List ℕ). cond (eqb room 0) [] (m ∷ ns)) (reached_before (room - passing_at m) ms n behind enough)

-- ---- the whole

up_to_front : (stop : Option ℕ) (es : List TruthExprOf) (rows : List Row) (numbers : List ℕ) → (left : List ℕ) × (numbers ≡ up_to stop es rows numbers ++ left)
up_to_front None es rows numbers = ([], sym (append-nil numbers))
up_to_front (Some room) es rows numbers = reached_front es rows room numbers

pub front : (scan : ScanOf) (es : List TruthExprOf) (rows : List Row) → (left : List ℕ) × (admitted_blocks scan.tests rows ≡ read_blocks scan es rows ++ left)
front scan es rows = up_to_front scan.stop es rows (admitted_blocks scan.tests rows)

pub read_where : (tests : List TestOf) (stop : ℕ) (es : List TruthExprOf) (rows : List Row) (before : List ℕ) (number : ℕ) (behind : List ℕ)
    → admitted_blocks tests rows ≡ before ++ number ∷ behind
    → Contains (reached es stop rows (admitted_blocks tests rows)) number ↔ (count_by (passes_each es) (rows_of_blocks rows before) < stop)
read_where tests stop es rows before number behind is =
    let Less = λ (n : ℕ). n < number in
    let less = below (λ n. admits_all tests (block_at rows n)) 0 (block_count (length rows)) before number behind is in
    let same = ap (reached es stop rows) is in (
      λ has. elim (cases_lt (passing_in es rows before) stop) [
        | inl few ↦ few
        | inr many ↦
            let none = subst (λ (ns : List ℕ). Contains ns number) (same ∙ reached_before es rows stop before number behind many) has in
            let read = reached es stop rows before in
            let itself : number < number = All-contains Less read number (All-from_recursion Less read (reached_each Less es stop rows before less)) none in
            absurd (omega (arith, itself))
      ],
      λ few. subst (λ (ns : List ℕ). Contains ns number) (sym same) (reached_here es rows stop before number behind few),
    )
