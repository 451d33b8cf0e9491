-- What is read of the rows of a part of a file.
use Rattle.std.specs.Prelude.{◌≡◌, ◌⊎◌, ◌+◌, ◌≤◌, ℕ, List, [], length, map, Option, Some, slice_get, slice_index_or}
use Rattle.std.specs.Result.{result_err}
use Rattle.cell_types.specs.declared.fault.CellFault.{CellFault}
use Rattle.cell_types.specs.declared.fault.CellFault.TheVariants.{NoMemory}
use Rattle.cell_types.specs.declared.column.Column.{Column}
use Rattle.cell_types.specs.Column.{column_view, ColumnOf}
use Rattle.cell_types.specs.Kind.{kind_of}
use Rattle.csv_grammar.specs.Raw.{RawField, field_of}
use Rattle.column_blocks.specs.ColumnReader.{ReaderOf, with_cells}
use Rattle.column_blocks.specs.Parts.{part_cells, PartHasValues}
use Rattle.file_cells.specs.declared.fault.BadCell.{BadCell}
use Rattle.file_cells.specs.Rows.{values_from, wrong_of}

-- each field of the rows has a value in its column
abbrev pub AllColumnsHaveValues : List ColumnOf → List (List RawField) → Type 0
AllColumnsHaveValues columns rows = (col : ℕ) (column : ColumnOf) → slice_get columns col ≡ Some column → PartHasValues column col rows

-- a reader of the column with room for `rows` cells
pub record HasPartReader (column : ColumnOf) (reader : ReaderOf) (rows : ℕ) : Type 0 where
  pub kind : kind_of column.datatype ≡ reader.kind
  pub room : length reader.cells + rows ≤ reader.rows

-- each column has one
pub record HavePartReaders (columns : List ColumnOf) (readers : List ReaderOf) (rows : ℕ) : Type 0 where
  pub count : length readers ≡ length columns
  pub each : (col : ℕ) (column : ColumnOf) (reader : ReaderOf) → slice_get columns col ≡ Some column → slice_get readers col ≡ Some reader → HasPartReader column reader rows

-- each reader with the cells of the rows
pub record ArePartReadOn (columns : List ColumnOf) (rows : List (List RawField)) (readers new : List ReaderOf) : Type 0 where
  pub count : length new ≡ length readers
  pub each : (col : ℕ) (column : ColumnOf) (reader : ReaderOf) → slice_get columns col ≡ Some column → slice_get readers col ≡ Some reader
      → slice_get new col ≡ Some (with_cells reader (part_cells column col rows))

-- what is wrong with a row of fields
abbrev pub wrong_in_row : List ColumnOf → List RawField → Option (ℕ × CellFault)
wrong_in_row columns fields = result_err (values_from 0 columns (map field_of fields))

-- and with the row of a number
abbrev pub wrong_at : List Column → List (List RawField) → ℕ → Option (ℕ × CellFault)
wrong_at columns rows row = wrong_in_row (map column_view columns) (slice_index_or rows row [])

-- this is the first cell of the rows, row by row, that has no value, or memory ran out
abbrev pub IsFirstBadIn : ℕ → List ColumnOf → List (List RawField) → BadCell → Type 0
IsFirstBadIn first columns rows bad = (bad.fault ≡ NoMemory) ⊎ (wrong_of first columns rows ≡ Some (bad.row, bad.col, bad.fault))
