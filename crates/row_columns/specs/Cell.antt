-- Cells, as they are kept.
use Rattle.block_summary.specs.TypedNumbers.{typed_number_cell}
use Rattle.cell_types.specs.Value.{CellValue, null, text, value_view}
use Rattle.row_columns.specs.declared.cell.Cell.{Cell}
use Rattle.row_columns.specs.declared.cell.Cell.TheVariants as kept

abbrev pub cell_view : Cell → CellValue
cell_view kept.Null = null
cell_view (kept.Number number) = typed_number_cell number
cell_view (kept.Text t) = text t.now
cell_view (kept.Value value) = value_view value.now
