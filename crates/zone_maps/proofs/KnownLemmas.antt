-- Conditions whose truth the ranges of a block tell.
use Rattle.std.proofs.Common.{◌≡◌, ℕ, Option, Some, None, List, [], ◌∷◌, zero, suc, refl, sym, ap, ◌∙◌, subst}
use Rattle.std.specs.Prelude.{IfSome}
use Rattle.std.specs.Cmp.Lexicographic.{slice_cmp}
use Rattle.std.specs.Ordering.{nat_cmp}
use Rattle.cell_types.specs.declared.kind.ColumnKind.TheVariants.{Text}
use Rattle.cell_types.specs.Value.{CellValue, null}
use Rattle.block_summary.specs.Ranges.{RangeOf}
use Rattle.cell_types.specs.declared.comparison.ComparisonOperator.{ComparisonOperator}
use Rattle.typed_trees.specs.TypedTree.{TextExprOf, compare_texts}
use Rattle.typed_trees.specs.TypedTree as typed
use Rattle.row_eval.specs.declared.truth.Truth.{Truth}
use Rattle.row_eval.specs.Comparison.{compared, holds}
use Rattle.row_eval.specs.Logic.{truth_of, truth_of_option}
use Rattle.row_eval.specs.Outcome.{text_outcome}
use Rattle.row_eval.specs.Row.{boolean_in, cell, text_in}
use Rattle.zone_maps.specs.Known.{cell_at_place, HaveCellAlone, HasTruth, IsConstantText, IsKnown}

-- what is read of the cell at a place; of null, which stands where there is none, nothing
pub cell-at : {X : Type 0} (read : CellValue → Option X) → read null ≡ None → (cells : List CellValue) (place : ℕ) → cell read cells place ≡ read (cell_at_place cells place)
cell-at read none [] place = sym none
cell-at read none (c ∷ cs) zero = refl
cell-at read none (c ∷ cs) (suc place) = cell-at read none cs place

-- ---- comparisons

texts-known : (o : ComparisonOperator) (place : ℕ) (right : TextExprOf) (literal : CellValue) (ranges : List RangeOf) (truth : Truth) → IsConstantText right literal
    → HasTruth Text o ranges place literal truth → IsKnown (compare_texts o (typed.text_column place) right) ranges truth
texts-known o place right literal ranges truth constant has cells is =
    ap (λ x. Some (truth_of (holds o (compared (slice_cmp nat_cmp) x (text_outcome right cells))))) (cell-at text_in refl cells place)
    ∙ ap (λ y. Some (truth_of (holds o (compared (slice_cmp nat_cmp) (text_in (cell_at_place cells place)) y)))) (constant.each cells)
    ∙ ap (λ t. Some t) (has cells is)

pub texts-tell : (known : Option Truth) (o : ComparisonOperator) (place : ℕ) (left right : TextExprOf) (literal : CellValue) (ranges : List RangeOf) → left ≡ typed.text_column place
    → IsConstantText right literal → IfSome known (HasTruth Text o ranges place literal) → IfSome known (IsKnown (compare_texts o left right) ranges)
texts-tell None o place left right literal ranges e constant has = tt
texts-tell (Some truth) o place left right literal ranges e constant has =
    subst (λ l. IsKnown (compare_texts o l right) ranges truth) (sym e) (texts-known o place right literal ranges truth constant has)

-- ---- truths

pub column-known : (place : ℕ) (value : CellValue) (ranges : List RangeOf) (truth : Truth) → truth_of_option (boolean_in value) ≡ truth → HaveCellAlone value ranges place
    → IsKnown (typed.truth_column place) ranges truth
column-known place value ranges truth e all cells is =
    ap (λ x. Some (truth_of_option x)) (cell-at boolean_in refl cells place ∙ ap boolean_in (all cells is)) ∙ ap (λ t. Some t) e
