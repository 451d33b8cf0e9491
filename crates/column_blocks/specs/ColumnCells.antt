-- The cells of a column, or of some of its rows.
use Rattle.std.specs.Prelude.{List}
use Rattle.cell_types.specs.declared.kind.ColumnKind.{ColumnKind}
use Rattle.cell_types.specs.Value.{CellValue}

-- the kind of cells, and the cells
pub record ColumnCells : Type 0 where
  pub kind : ColumnKind
  pub cells : List CellValue
