-- Rows that may be among the first in an order, judged by the value of the first item (OData 4.01 URL Conventions, sections 5.1.5 and 5.1.6).
use Rattle.std.specs.Prelude.{◌≡◌, ◌≤◌, ◌<◌, ◌-◌, ◌++◌, ℕ, Bool, true, false, not, filter, IfSome, List, [], ◌∷◌, Option, Some, None, get_or, if◌then◌else◌, length, slice_index_or}
use Rattle.std.specs.Ordering.{is_lt}
use Rattle.std.specs.declared.cmp.Ordering.{Ordering}
use Rattle.std.specs.declared.cmp.Ordering.TheVariants.{Equal}
use Rattle.block_summary.specs.Ranges.{is_null}
use Rattle.cell_types.specs.Value.{CellValue, null, value_cmp}
use Rattle.cell_types.specs.declared.comparison.ComparisonOperator.{ComparisonOperator}
use Rattle.cell_types.specs.declared.kind.NumberKind.{NumberKind}
use Rattle.typed_trees.specs.TypedTree.{NumberExprOf, TruthExprOf, compare_numbers, number_column}
use Rattle.row_eval.specs.Bounds.{TruthFits}
use Rattle.row_eval.specs.Comparison.{holds}
use Rattle.row_eval.specs.Laws.{IsCalendarDay}
use Rattle.row_eval.specs.Logic.{truth_of}
use Rattle.row_eval.specs.Outcome.{truth_outcome}
use Rattle.row_eval.specs.Row.{cell, day_in}
use Rattle.query_meaning.specs.Order.{Item, directed, item_value, ordered, plain_column, rows_cmp, sorted}
use Rattle.typed_trees.specs.Plain.{plain_at}
use Rattle.cell_types.specs.declared.kind.ColumnKind.TheVariants.{Number}
use Rattle.typed_trees.specs.declared.plain.PlainColumn.{PlainColumn}
use Rattle.sort_rows.specs.Best.{best_rows}
use Rattle.order_columns.specs.Plain.{column_value}

-- a value is before another in a direction
abbrev pub is_before : Bool → CellValue → CellValue → Bool
is_before descending a b = is_lt (directed descending a b)

-- the value of the first item
abbrev pub first_value : List Item → List CellValue → CellValue
first_value [] row = null
first_value (item ∷ items) row = item_value item row

-- the column that the first item is, where it is one
abbrev pub first_place : List Item → Option ℕ
first_place [] = None
first_place (item ∷ items) = plain_column item.0

-- A row may come before one whose first item has this value: where further items could decide, also if it ties.
abbrev pub may_precede : List Item → CellValue → List CellValue → Bool
may_precede [] bound row = false
may_precede (item ∷ []) bound row = is_before item.1 (item_value item row) bound
may_precede (item ∷ items) bound row = not (is_before item.1 bound (item_value item row))

-- a row does not come after one whose first item has this value, as far as the first item decides
abbrev pub is_near : List Item → CellValue → List CellValue → Bool
is_near [] bound row = true
is_near (item ∷ items) bound row = not (is_before item.1 bound (item_value item row))

-- the dates of a row are days of the calendar
abbrev pub HasCalendarDays : List CellValue → Type 0
HasCalendarDays row = (place : ℕ) → IfSome (cell day_in row place) IsCalendarDay

-- A condition is a test of the rows of which the first item is a column: the condition finds the column's cell at a place of its own. It computes no number.
pub record IsTest (items : List Item) (col : ℕ) (test : List CellValue → Bool) (e : TruthExprOf) : Type 0 where
  pub outcome : (place : ℕ) (row picked : List CellValue) → first_place items ≡ Some place → get_or row col null ≡ get_or picked place null → HasCalendarDays row
      → truth_outcome e row ≡ Some (truth_of (test picked))
  pub fits : (row : List CellValue) → TruthFits e row

-- no item divides by zero on any row
abbrev pub NeverFault : List Item → Type 0
NeverFault items = (rows : List (List CellValue)) → ordered items rows ≡ Some (sorted (rows_cmp items) rows)

-- a row that comes after these is not among the first, whatever rows are between them and after it
abbrev pub ComesLate : List Item → ℕ → List (List CellValue) → List CellValue → Type 0
ComesLate items most rows row =
    (between others : List (List CellValue)) → best_rows items most (rows ++ between ++ row ∷ others) ≡ best_rows items most (rows ++ between ++ others)

-- After the first rows of an order, as many as are asked for, a row comes late that may not precede the last of them. Of other rows those are enough that
-- are near, if they are as many.
pub record RowsAreCutOff : Type 0 where
  pub late : (items : List Item) (most : ℕ) (rows best : List (List CellValue)) (row : List CellValue) → NeverFault items → best_rows items most rows ≡ Some best → 0 < most → most ≤ length best
      → may_precede items (first_value items (slice_index_or best (most - 1) [])) row ≡ false → ComesLate items most best row
  pub near : (items : List Item) (most : ℕ) (front rows : List (List CellValue)) (bound : CellValue) → NeverFault items → most ≤ length (filter (is_near items bound) rows)
      → best_rows items most (front ++ filter (is_near items bound) rows) ≡ best_rows items most (front ++ rows)

-- ---- inside

-- two values as they are compared: null equals null, and has no order beside a value
abbrev pub order_between : CellValue → CellValue → Option Ordering
order_between a b = if is_null a then (if is_null b then Some Equal else None) else (if is_null b then None else Some (value_cmp a b))

-- a column of the same kind at another place
abbrev pub moved_to : ℕ → PlainColumn → PlainColumn
moved_to col column = record column { place = col }

-- a condition is a test of the value of a column, and computes no number
pub record IsTestOfColumn (column : PlainColumn) (test : CellValue → Bool) (e : TruthExprOf) : Type 0 where
  pub outcome : (row : List CellValue) → HasCalendarDays row → truth_outcome e row ≡ Some (truth_of (test (column_value column row)))
  pub fits : (row : List CellValue) → TruthFits e row

-- it compares the value with another
abbrev pub IsComparison : ComparisonOperator → PlainColumn → CellValue → TruthExprOf → Type 0
IsComparison operator column value e = IsTestOfColumn column (λ v. holds operator (order_between v value)) e

-- a column of a kind is compared with a value as its numbers are with another
abbrev pub ComparesAs : NumberKind → CellValue → NumberExprOf → Type 0
ComparesAs kind value number =
    (o : ComparisonOperator) (col : ℕ) → IsComparison o (plain_at (Number kind) col) value (compare_numbers o (number_column kind col) number)
