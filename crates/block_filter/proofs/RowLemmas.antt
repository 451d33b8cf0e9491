-- Rows of a block that are looked at one after another.
use Rattle.std.proofs.Common.{◌≡◌, inl, inr, ℕ, zero, suc, ◌+◌, ◌<◌, ◌≤◌, Bool, true, false, ◌&&◌, ◌||◌, Option, Some, List, [], ◌∷◌, ◌++◌, length, take, get_or, refl, sym, ap, ◌∙◌, arith}
use Rattle.std.specs.Prelude.{is_none, is_some, not, option_and_then, slice_get, slice_set}
use Rattle.std.specs.List.{All, list_any}
use Rattle.std.proofs.Math.Bool.{or-false}
use Rattle.std.proofs.lemmas.Bool.{cases_eq}
use Rattle.std.proofs.lemmas.List.{get_or-set_other, get_or-set_same, take_all, take_more}
use Rattle.std.proofs.lemmas.Option.{get_or_from_slice_get, slice_get_within}
use Rattle.cell_types.specs.Column.{ColumnOf}
use Rattle.cell_types.specs.Rows.{IsTableRow}
use Rattle.cell_types.specs.Value.{CellValue, null}
use Rattle.typed_trees.specs.TypedTree.{TruthExprOf}
use Rattle.row_eval.specs.declared.truth.Truth.{Truth}
use Rattle.row_eval.specs.Outcome.{truth_outcome}
use Rattle.query_meaning.specs.Filter.{faults, is_true, passes}
use Rattle.block_filter.specs.Marks.{marked}
use Rattle.block_filter.specs.Passing.{Narrows}
use Rattle.block_filter.proofs.LaneLemmas.{row_wide}
use Rattle.block_filter.proofs.NarrowLemmas.{one_more}

-- ---- one row after another

-- the first rows were gone through, and the others are as they were
pub record AreNarrowed (e : TruthExprOf) (rows : List (List CellValue)) (was now : List Bool) (i : ℕ) (faulted : Bool) : Type 0 where
  pub done : (k : ℕ) → k < i → get_or now k false ≡ (get_or was k false && passes e (get_or rows k []))
  pub left : (k : ℕ) → i ≤ k → get_or now k false ≡ get_or was k false
  pub faulted_is : faulted ≡ list_any (faults e) (marked (take i was) rows)

pub all_narrowed : (e : TruthExprOf) (rows : List (List CellValue)) (was now : List Bool) (i : ℕ) (faulted : Bool) → length was ≤ i → length was ≡ length rows
    → AreNarrowed e rows was now i faulted → Narrows e rows was now faulted
all_narrowed e rows was now i faulted over long so_far = record {
  each = λ row h. so_far.done row (omega (arith, h, over, long));
  faulted_is = so_far.faulted_is ∙ ap (λ marks. list_any (faults e) (marked marks rows)) (take_all i was over);
}

-- the next of them is looked at
module _ (e : TruthExprOf) (rows : List (List CellValue)) (was now : List Bool) (i : ℕ) (faulted : Bool) (inside : i < length was) (long : length was ≡ length rows)
    (so_far : AreNarrowed e rows was now i faulted) where
  faults_more : list_any (faults e) (marked (take (i + 1) was) rows) ≡ (faulted || (get_or now i false && faults e (get_or rows i [])))
  faults_more = rw (one_more (faults e) was rows i inside long, ← so_far.faulted_is, so_far.left i (omega arith)) refl

  -- where it is wanted, what the condition makes of it is written
  pub wanted_row : (outcome : Option Truth) → get_or now i false ≡ true → outcome ≡ truth_outcome e (get_or rows i []) → length now ≡ length was
      → AreNarrowed e rows was (slice_set now i (is_true outcome)) (i + 1) (faulted || is_none outcome)
  wanted_row outcome is made same = record {
    done = λ k h. elim (cases_eq k i) [
      | inl here ↦ rw (here, get_or-set_same now i (is_true outcome) false (omega (arith, inside, same)), made, ← (so_far.left i (omega arith)), is) refl
      | inr other ↦ get_or-set_other now i k (is_true outcome) false other ∙ so_far.done k (omega arith)
    ];
    left = λ k h. get_or-set_other now i k (is_true outcome) false (λ same_row. absurd (omega arith)) ∙ so_far.left k (omega arith);
    faulted_is = rw (faults_more, is, made) refl;
  }

  -- where it is not, it stays so
  pub other_row : get_or now i false ≡ false → AreNarrowed e rows was now (i + 1) faulted
  other_row is = record {
    done = λ k h. elim (cases_eq k i) [
      | inl here ↦ rw (here, ← (so_far.left i (omega arith)), is) refl
      | inr other ↦ so_far.done k (omega arith)
    ];
    left = λ k h. so_far.left k (omega arith);
    faulted_is = rw (faults_more, is) (sym (or-false faulted));
  }

pub none_is : (outcome : Option Truth) (b : Bool) → is_some outcome ≡ not b → is_none outcome ≡ b
none_is outcome b e = grind arith

-- ---- the values of a row

module _ (col : ℕ) (value : CellValue) where
  row_there : (rows : List (List CellValue)) (row : ℕ) → option_and_then (λ values. slice_get values col) (slice_get rows row) ≡ Some value → slice_get (get_or rows row []) col ≡ Some value
  row_there [] row e = absurd (cc)
  row_there (r ∷ rows) zero e = e
  row_there (r ∷ rows) (suc row) e = row_there rows row e

  pub value_read : (rows : List (List CellValue)) (row : ℕ) (values : List CellValue) → values ≡ take col (get_or rows row [])
      → option_and_then (λ values. slice_get values col) (slice_get rows row) ≡ Some value → values ++ value ∷ [] ≡ take (col + 1) (get_or rows row [])
  value_read rows row values so_far e =
      let there = row_there rows row e in
      rw (so_far, take_more (get_or rows row []) col null (slice_get_within (get_or rows row []) col value there), get_or_from_slice_get (get_or rows row []) col value null there) refl

pub row_read : (schema : List ColumnOf) (rows : List (List CellValue)) (row width : ℕ) (values : List CellValue) → All (IsTableRow schema) rows → row < length rows → length schema ≤ width
    → values ≡ take width (get_or rows row []) → values ≡ get_or rows row []
row_read schema rows row width values fits inside wide so_far =
    let long = row_wide schema (get_or rows row []) (fits row [] inside) in
    so_far ∙ take_all width (get_or rows row []) (omega (arith, long, wide))
