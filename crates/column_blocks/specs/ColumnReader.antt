-- The cells of the columns of a table, as rows are read.
use Rattle.std.specs.Prelude.{◌≡◌, ℕ, List, ◌++◌, Some, length, slice_get}
use Rattle.block_summary.specs.Ranges.{column_of}
use Rattle.cell_types.specs.declared.kind.ColumnKind.TheVariants.{Text, Number}
use Rattle.cell_types.specs.declared.kind.ColumnKind.{ColumnKind}
use Rattle.cell_types.specs.Kind.{kind_of}
use Rattle.cell_types.specs.Column.{ColumnOf}
use Rattle.cell_types.specs.Value.{CellValue}
use Rattle.column_blocks.specs.TypedColumn.{ColumnCells}
use Rattle.column_blocks.specs.declared.column_reader.Cells.{Cells}
use Rattle.column_blocks.specs.declared.column_reader.Cells.TheVariants.{Numbers, Texts}

-- the kind of the cells, how many cells there are to be, and those so far
pub record ReaderOf : Type 0 where
  pub kind : ColumnKind
  pub rows : ℕ
  pub cells : List CellValue

abbrev pub reader_view : Cells → ReaderOf
reader_view (Numbers reader) = record { kind = Number reader.kind; rows = reader.rows; cells = reader.cells }
reader_view (Texts reader) = record { kind = Text; rows = reader.rows; cells = reader.cells }

-- more cells
abbrev pub with_cells : ReaderOf → List CellValue → ReaderOf
with_cells reader cells = record reader { cells = reader.cells ++ cells }

-- a reader of a column of `rows` rows, with some of its cells
abbrev pub reader_at : ℕ → ColumnOf → List CellValue → ReaderOf
reader_at rows column cells = record { kind = kind_of column.datatype; rows = rows; cells = cells }

-- the column that is read
abbrev pub cells_read : ReaderOf → ColumnCells
cells_read reader = record { kind = reader.kind; cells = reader.cells }

-- the readers of the columns of `total` rows have read some of them
pub record HaveRead (total : ℕ) (columns : List ColumnOf) (rows : List (List CellValue)) (readers : List ReaderOf) : Type 0 where
  pub count : length readers ≡ length columns
  pub each : (col : ℕ) (column : ColumnOf) → slice_get columns col ≡ Some column → slice_get readers col ≡ Some (reader_at total column (column_of rows col))
