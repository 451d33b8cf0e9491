-- What holds of all expressions and rows.
use Rattle.std.specs.Prelude.{◌≡◌, ◌≤◌, false, All, List, Option, Some, IfSome, IsSome, map, option_map}
use Rattle.cell_types.specs.Value.{CellValue}
use Rattle.typed_trees.specs.CanFault.{can_fault, truth_can_fault}
use Rattle.cell_types.specs.declared.comparison.ComparisonOperator.{ComparisonOperator}
use Rattle.typed_trees.specs.TypedTree.{DateExprOf, DayOf, TruthExprOf, TypedExprOf, compare_numbers, number_in, number_of_date, number_of_day}
use Rattle.row_eval.specs.Comparison.{compared, day_cmp, holds, is_among}
use Rattle.row_eval.specs.Logic.{truth_of}
use Rattle.row_eval.specs.Outcome.{date_outcome, outcome, truth_outcome}

-- an expression that cannot fault has a value on each row
pub record FaultsAreForeseen : Type 0 where
  pub expressions : (e : TypedExprOf) (row : List CellValue) → can_fault e ≡ false → IsSome (outcome e row)
  pub conditions : (e : TruthExprOf) (row : List CellValue) → truth_can_fault e ≡ false → IsSome (truth_outcome e row)

-- a month and a day of the month
abbrev pub IsCalendarDay : DayOf → Type 0
IsCalendarDay d = (d.month ≤ 12) × (d.day ≤ 31)

-- dates that are compared as numbers are compared by year, then by month, then by day
pub record DatesAreCompared : Type 0 where
  pub comparisons : (o : ComparisonOperator) (a b : DateExprOf) (row : List CellValue) → IfSome (date_outcome a row) IsCalendarDay → IfSome (date_outcome b row) IsCalendarDay
      → truth_outcome (compare_numbers o (number_of_date a) (number_of_date b)) row
      ≡ Some (truth_of (holds o (compared day_cmp (date_outcome a row) (date_outcome b row))))
  pub lists : (a : DateExprOf) (items : List (Option DayOf)) (row : List CellValue) → IfSome (date_outcome a row) IsCalendarDay → All (λ item. IfSome item IsCalendarDay) items
      → truth_outcome (number_in (number_of_date a) (map (option_map number_of_day) items)) row
      ≡ Some (truth_of (is_among day_cmp (date_outcome a row) items))
