-- Columns of numbers that are compared with numbers.
use Rattle.std.proofs.Common.{◌≡◌, ℕ, Option, Some, None, List, sym, ap, ◌∙◌, subst}
use Rattle.std.specs.Prelude.{ℤ, IfSome}
use Rattle.std.specs.Ordering.{int_cmp}
use Rattle.cell_types.specs.declared.kind.ColumnKind.TheVariants.{Number}
use Rattle.cell_types.specs.Kind.{number_cell}
use Rattle.cell_types.specs.Laws.{DatesReadBack, NumbersStandForCells, ValuesAreOrdered}
use Rattle.cell_types.specs.Value.{CellValue}
use Rattle.block_summary.specs.Ranges.{RangeOf}
use Rattle.cell_types.specs.declared.comparison.ComparisonOperator.{ComparisonOperator}
use Rattle.cell_types.specs.declared.kind.NumberKind.{NumberKind}
use Rattle.typed_trees.specs.TypedTree as typed
use Rattle.typed_trees.specs.TypedTree.{NumberExprOf, compare_numbers}
use Rattle.row_eval.specs.declared.truth.Truth.{Truth}
use Rattle.row_eval.specs.Comparison.{compared, holds}
use Rattle.row_eval.specs.Logic.{truth_of}
use Rattle.row_eval.specs.Outcome.{both}
use Rattle.row_eval.specs.Row.{cell, number_in}
use Rattle.zone_maps.specs.Known.{cell_at_place, holds_between, HasTruth, IsConstantNumber, IsKnown}
use Rattle.zone_maps.specs.Numbers.{NumbersAreTested}
use Rattle.zone_maps.proofs.KnownLemmas.{cell-at}
use Rattle.zone_maps.proofs.TestLemmas.{row-day, tests-alike}

column-compared : NumbersStandForCells → (k : NumberKind) (o : ComparisonOperator) (place : ℕ) (number : Option ℤ) (literal : CellValue) (cells : List CellValue) → number_in k literal ≡ number
    → holds o (compared int_cmp (cell (number_in k) cells place) number) ≡ holds_between (Number k) o (cell_at_place cells place) literal
column-compared law k o place number literal cells e =
    ap (λ x. holds o (compared int_cmp x number)) (cell-at (number_in k) (law.no_number k) cells place)
    ∙ ap (λ y. holds o (compared int_cmp (number_in k (cell_at_place cells place)) y)) (sym e)

pub numbers-tested : DatesReadBack → NumbersStandForCells → ValuesAreOrdered → NumbersAreTested
numbers-tested dates law values columns row k o place number value fits of_kind is =
    let has = law.given k number value is in
    sym (tests-alike law values (Number k) o (cell_at_place row place) value of_kind has.kind_is (row-day dates columns row place fits) has.day)
    ∙ sym (column-compared law k o place number value row has.number_is)

numbers-known : NumbersStandForCells → (k : NumberKind) (o : ComparisonOperator) (place : ℕ) (right : NumberExprOf) (number : Option ℤ) (literal : CellValue) (ranges : List RangeOf) (truth : Truth)
    → IsConstantNumber right number → number_cell k number ≡ Some literal → HasTruth (Number k) o ranges place literal truth → IsKnown (compare_numbers o (typed.number_column k place) right) ranges truth
numbers-known law k o place right number literal ranges truth constant is has cells within =
    ap (both (λ x y. truth_of (holds o (compared int_cmp x y))) (Some (cell (number_in k) cells place))) (constant cells)
    ∙ ap (λ b. Some (truth_of b)) (column-compared law k o place number literal cells (law.given k number literal is).number_is)
    ∙ ap (λ t. Some t) (has cells within)

pub numbers-tell : NumbersStandForCells → (known : Option Truth) (k : NumberKind) (o : ComparisonOperator) (place : ℕ) (left right : NumberExprOf) (number : Option ℤ) (literal : CellValue)
    (ranges : List RangeOf) → left ≡ typed.number_column k place → IsConstantNumber right number → number_cell k number ≡ Some literal
    → IfSome known (HasTruth (Number k) o ranges place literal) → IfSome known (IsKnown (compare_numbers o left right) ranges)
numbers-tell law None k o place left right number literal ranges f constant is has = tt
numbers-tell law (Some truth) k o place left right number literal ranges f constant is has =
    subst (λ l. IsKnown (compare_numbers o l right) ranges truth) (sym f) (numbers-known law k o place right number literal ranges truth constant is has)
