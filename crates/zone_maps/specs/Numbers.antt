-- Columns of numbers that are compared with numbers.
use Rattle.std.specs.Prelude.{◌≡◌, ℕ, ℤ, true, List, Option, Some}
use Rattle.std.specs.Ordering.{int_cmp}
use Rattle.cell_types.specs.declared.kind.ColumnKind.TheVariants.{Number}
use Rattle.cell_types.specs.Column.{ColumnOf}
use Rattle.cell_types.specs.Kind.{is_of_kind, number_cell}
use Rattle.cell_types.specs.Rows.{IsTableRow}
use Rattle.cell_types.specs.Value.{CellValue}
use Rattle.block_summary.specs.Tests.{test_passes}
use Rattle.cell_types.specs.declared.comparison.ComparisonOperator.{ComparisonOperator}
use Rattle.cell_types.specs.declared.kind.NumberKind.{NumberKind}
use Rattle.row_eval.specs.Comparison.{compared, holds}
use Rattle.row_eval.specs.Row.{cell, number_in}
use Rattle.zone_maps.specs.Known.{cell_at_place}

-- on a row of a table a comparison of a column's number with another holds just where the column passes the test with the value that the other stands for
abbrev pub NumbersAreTested : Type 0
NumbersAreTested = (columns : List ColumnOf) (row : List CellValue) (kind : NumberKind) (o : ComparisonOperator) (place : ℕ) (number : Option ℤ) (value : CellValue) → IsTableRow columns row
    → is_of_kind (Number kind) (cell_at_place row place) ≡ true → number_cell kind number ≡ Some value
    → test_passes o (cell_at_place row place) value ≡ holds o (compared int_cmp (cell (number_in kind) row place) number)
