-- What conditions leave of the rows of a block.
use Rattle.std.proofs.Common.{◌≡◌, ℕ, zero, suc, ◌+◌, ◌<◌, Bool, true, false, ◌&&◌, ◌||◌, cond, Option, None, Some, List, [], ◌∷◌, length, map, take, drop, replicate, get_or, refl, sym, ap, ◌∙◌, inl, inr, arith}
use Rattle.std.specs.Prelude.{Box, count_by, filter, is_none, option_and_then}
use Rattle.std.specs.List.{All, list_any}
use Rattle.std.proofs.lemmas.Bool.{and_parts, cases_Bool}
use Rattle.std.proofs.lemmas.List.{drop_more, nil_from_length}
use Rattle.std.proofs.lemmas.List.Sums.{length-filter, sum_by-cons}
use Rattle.cell_types.specs.Column.{ColumnOf}
use Rattle.cell_types.specs.Rows.{IsTableRow}
use Rattle.cell_types.specs.Value.{CellValue}
use Rattle.typed_trees.specs.declared.tree.TruthExpr.{TruthExpr}
use Rattle.typed_trees.specs.TypedTree.{boxed_truth, TruthExprOf}
use Rattle.row_eval.specs.declared.truth.Truth.{Truth}
use Rattle.row_eval.specs.declared.truth.Truth.TheVariants.{True}
use Rattle.row_eval.specs.Outcome.{truth_outcome}
use Rattle.block_eval.specs.declared.columns.BlockColumn.{BlockColumn}
use Rattle.block_eval.specs.Lanes.{truth_lane, AreOutcomesWithin}
use Rattle.block_summary.specs.Ranges.{RangeOf, AreRangesOf}
use Rattle.query_meaning.specs.Filter.{faults, is_true, passes, passes_each, passing}
use Rattle.block_filter.specs.Lanes.{AreColumnsOf}
use Rattle.block_filter.specs.Conditions.{passing_all, ConditionsFit}
use Rattle.block_filter.specs.Marks.{is_marked, keeps_row, marked, HoldsOnMarked}
use Rattle.block_filter.specs.Passing.{unless_faulted, IsNarrowedBy, Narrows}
use Rattle.block_filter.specs.declared.passing.Narrowed.{Narrowed}
use Rattle.block_filter.proofs.ConditionLemmas.{none_pass}
use Rattle.block_filter.proofs.PassingLemmas.{all_marked, marked_count}

-- ---- a condition on the rows that are wanted

module _ (p : List CellValue → Bool) where
  -- where each row is wanted still if a test holds of it, the rows are filtered
  narrowed_rows : (rows : List (List CellValue)) (was now : List Bool) → length was ≡ length rows → length now ≡ length rows
      → ((row : ℕ) → row < length rows → get_or now row false ≡ (get_or was row false && p (get_or rows row []))) → marked now rows ≡ filter p (marked was rows)
  narrowed_rows [] [] [] h g each = refl
  narrowed_rows (row ∷ rows) (w ∷ was) (n ∷ now) h g each =
      grind (arith, each 0, narrowed_rows rows was now (omega arith) (omega arith) (λ k i. each (suc k) (omega arith)))
  narrowed_rows rows was now h g each = absurd (omega arith)

  -- no row that is wanted passes a test
  none_passes : (was : List Bool) (rows : List (List CellValue)) → ((row : ℕ) → row < length rows → get_or was row false ≡ true → p (get_or rows row []) ≡ false)
      → list_any p (marked was rows) ≡ false
  none_passes (w ∷ was) (row ∷ rows) each = grind (arith, each 0, none_passes was rows (λ k h m. each (suc k) (omega arith) m))
  none_passes was rows each = refl

  -- a wanted row of more rows passes it, where one of them does
  pub one_more : (was : List Bool) (rows : List (List CellValue)) (i : ℕ) → i < length was → length was ≡ length rows
      → list_any p (marked (take (i + 1) was) rows) ≡ (list_any p (marked (take i was) rows) || (get_or was i false && p (get_or rows i [])))
  one_more (w ∷ was) (row ∷ rows) zero h long = grind arith
  one_more (w ∷ was) (row ∷ rows) (suc i) h long = grind (arith, one_more was rows i)
  one_more was rows i h long = absurd (omega arith)

-- ---- by the truths of a block

keeps_true : (truth : Truth) → keeps_row truth ≡ is_true (Some truth)
keeps_true True = refl
keeps_true truth = refl

-- what the truths of a block leave of the rows that were wanted
module _ (e : TruthExprOf) (schema : List ColumnOf) (rows : List (List CellValue)) (ranges : List RangeOf) (columns : List BlockColumn) (was now : List Bool) (truths : List Truth)
    (are : AreColumnsOf rows columns) (fit : All (IsTableRow schema) rows) (within : AreRangesOf ranges rows) (outcomes : AreOutcomesWithin e ranges columns was truths)
    (long : length was ≡ length rows) (each : (row : ℕ) → row < length was → get_or now row false ≡ (get_or was row false && keeps_row (truth_lane truths row))) where
  outcome_is : (row : ℕ) → row < length rows → get_or was row false ≡ true → truth_outcome e (get_or rows row []) ≡ Some (truth_lane truths row)
  outcome_is row h marked_is =
      outcomes.each row (get_or rows row []) marked_is (are row h) (record { rows = rows; row = row; are_ranges = within; within = h; cells_are = refl; columns = schema; fits = fit row [] h })

  kept_is : (row : ℕ) → row < length rows → get_or now row false ≡ (get_or was row false && passes e (get_or rows row []))
  kept_is row h = rw (each row (omega (arith, long))) (elim (cases_Bool (get_or was row false)) [
    | inl is ↦ rw (is, outcome_is row h is) (keeps_true (truth_lane truths row))
    | inr is ↦ rw is refl
  ])

  pub block_narrows : Narrows e rows was now false
  block_narrows = record {
    each = kept_is;
    faulted_is = sym (none_passes (faults e) was rows (λ row h is. ap is_none (outcome_is row h is)));
  }

-- ---- conditions in turn

filter-filter : (p q : List CellValue → Bool) (rows : List (List CellValue)) → filter q (filter p rows) ≡ filter (λ r. p r && q r) rows
filter-filter p q [] = refl
filter-filter p q (row ∷ rows) = rw (← (filter-filter p q rows)) (elim (cases_Bool (p row)) [ inl e ↦ rw e refl | inr e ↦ rw e refl ])

counted_filter : (p q : List CellValue → Bool) (rows : List (List CellValue)) → count_by q (filter p rows) ≡ count_by (λ r. p r && q r) rows
counted_filter p q rows = sym (length-filter q (filter p rows)) ∙ ap length (filter-filter p q rows) ∙ length-filter (λ r. p r && q r) rows

all_counted : (rows : List (List CellValue)) → count_by (passes_each []) rows ≡ length rows
all_counted [] = refl
all_counted (row ∷ rows) = rw (sum_by-cons (λ r. cond (passes_each [] r) 1 0) row rows, all_counted rows) (omega arith)

one_true : (row : List CellValue) (outcome : Option Truth) → is_true outcome ≡ true
    → cond (is_none outcome || false) None (Some (cond (is_true outcome) (row ∷ []) [])) ≡ Some (row ∷ [])
one_true row (Some True) is = refl
one_true row outcome is = absurd (cc)

-- the conditions that are left make of the rows that are wanted what all make of all rows
pub record AreLeftTo (es left : List TruthExprOf) (rows : List (List CellValue)) (wanted : List Bool) (faulted : Bool) : Type 0 where
  pub passed : passing_all es rows ≡ option_and_then (passing_all left) (unless_faulted faulted (marked wanted rows))
  pub count : count_by (passes_each es) rows ≡ count_by (passes_each left) (marked wanted rows)
  pub fits : HoldsOnMarked (ConditionsFit left) wanted rows

pub all_left : (es : List TruthExprOf) (rows : List (List CellValue)) (wanted : List Bool) → wanted ≡ replicate (length rows) true → All (ConditionsFit es) rows
    → AreLeftTo es es rows wanted false
all_left es rows wanted is fits =
    let whole : marked wanted rows ≡ rows = ap (λ marks. marked marks rows) is ∙ all_marked (length rows) rows refl in
    record {
      passed = ap (passing_all es) (sym whole);
      count = ap (count_by (passes_each es)) (sym whole);
      fits = λ row h m. fits row [] h;
    }

module _ (es : List TruthExprOf) (e : TruthExprOf) (left : List TruthExprOf) (rows : List (List CellValue)) (was now : List Bool) (faults_here : Bool)
    (long : length was ≡ length rows) (same : length now ≡ length rows) (n : Narrows e rows was now faults_here) where
  rows_are : marked now rows ≡ filter (passes e) (marked was rows)
  rows_are = narrowed_rows (passes e) rows was now long same n.each

  passing_is : passing e (marked was rows) ≡ unless_faulted faults_here (marked now rows)
  passing_is = rw (← n.faulted_is, ← rows_are) refl

  next_passed : (faulted : Bool) → option_and_then (passing_all (e ∷ left)) (unless_faulted faulted (marked was rows))
      ≡ option_and_then (passing_all left) (unless_faulted (faulted || faults_here) (marked now rows))
  next_passed true = refl
  next_passed false = ap (option_and_then (passing_all left)) passing_is

  pub next_left : (faulted : Bool) → AreLeftTo es (e ∷ left) rows was faulted → AreLeftTo es left rows now (faulted || faults_here)
  next_left faulted so_far = record {
    passed = so_far.passed ∙ next_passed faulted;
    count = so_far.count ∙ rw rows_are (sym (counted_filter (passes e) (passes_each left) (marked was rows)));
    fits = λ row h m.
        let both = and_parts (get_or was row false) (passes e (get_or rows row [])) (sym (n.each row h) ∙ m) in
        (so_far.fits row h both.0).1 (one_true (get_or rows row []) (truth_outcome e (get_or rows row [])) both.1);
  }

-- ---- the end

none_left : (faulted : Bool) (xs : List (List CellValue)) → option_and_then (passing_all []) (unless_faulted faulted xs) ≡ unless_faulted faulted xs
none_left faulted xs = grind arith

none_after : (left : List TruthExprOf) (faulted : Bool) → option_and_then (passing_all left) (unless_faulted faulted []) ≡ unless_faulted faulted []
none_after left faulted = grind (arith, none_pass left)

-- no condition is left
pub all_done : (es left : List TruthExprOf) (rows : List (List CellValue)) (made : Narrowed) → left ≡ [] → length made.wanted.items ≡ length rows
    → AreLeftTo es left rows made.wanted.items made.faulted → IsNarrowedBy es rows made
all_done es left rows made none long so_far =
    let xs = marked made.wanted.items rows in
    record { long = long; passed = (rw none at so_far.passed) ∙ none_left made.faulted xs; count = (rw none at so_far.count) ∙ all_counted xs }

-- no row is wanted
pub none_wanted : (es left : List TruthExprOf) (rows : List (List CellValue)) (made : Narrowed) → count_by is_marked made.wanted.items ≡ 0 → length made.wanted.items ≡ length rows
    → AreLeftTo es left rows made.wanted.items made.faulted → IsNarrowedBy es rows made
none_wanted es left rows made none long so_far =
    let empty : marked made.wanted.items rows ≡ [] = nil_from_length (marked made.wanted.items rows) (marked_count made.wanted.items rows long ∙ none) in
    record { long = long; passed = rw empty ((rw empty at so_far.passed) ∙ none_after left made.faulted); count = rw empty (rw empty at so_far.count) }

-- the next of some conditions
pub next_condition : {A : Type 0} (conditions : List (Box TruthExpr A)) (i : ℕ) (condition : Box TruthExpr A) → i < length conditions → condition ≡ get_or conditions i condition
    → map boxed_truth (drop i conditions) ≡ boxed_truth condition ∷ map boxed_truth (drop (i + 1) conditions)
next_condition conditions i condition h at = ap (map boxed_truth) (drop_more conditions i condition h ∙ ap (λ c. c ∷ drop (i + 1) conditions) (sym at))

-- ---- rows that are listed

-- of rows that were wanted those are wanted still on which the condition is true
pub listed_pass : (e : TruthExprOf) (rows : List (List CellValue)) (was now : List Bool) (faulted : Bool) (numbers : List ℕ) → All (λ n. n < length rows) numbers
    → All (λ n. get_or was n false ≡ true) numbers → Narrows e rows was now faulted → filter (λ n. get_or now n false) numbers ≡ filter (λ n. passes e (get_or rows n [])) numbers
listed_pass e rows was now faulted [] within wanted narrows = refl
listed_pass e rows was now faulted (n ∷ ns) within wanted narrows =
    let rest = listed_pass e rows was now faulted ns (λ k d h. within (suc k) d (omega arith)) (λ k d h. wanted (suc k) d (omega arith)) narrows in
    rw (narrows.each n (within 0 0 (omega arith)), wanted 0 0 (omega arith), rest) refl
