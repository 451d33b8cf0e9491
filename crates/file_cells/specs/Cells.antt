-- What is read of the cells of a file that is read window by window.
use Rattle.std.specs.Prelude.{◌≡◌, ◌≢◌, ℕ, ◌^◌, ◌≤◌, List, ◌++◌, length, None, Some, Result, Ok, Err, Vec}
use Rattle.cell_types.specs.Column.{ColumnOf}
use Rattle.cell_types.specs.declared.fault.CellFault.TheVariants.{NoMemory}
use Rattle.cell_types.specs.Value.{CellValue}
use Rattle.csv_grammar.specs.Raw.{RawField, RawTable}
use Rattle.csv_index.specs.Index.{IsRawTable}
use Rattle.csv_fields.specs.Values.{rows_in}
use Rattle.csv_windows.specs.Windows.{with_rows, Continues, HasLines, HasSize}
use Rattle.csv_windows.specs.declared.front.FirstLines.{FirstLines}
use Rattle.csv_windows.specs.declared.front.FirstLines.TheVariants as lines
use Rattle.column_blocks.specs.ColumnReader.{HaveRead, ReaderOf}
use Rattle.file_cells.specs.declared.cells.Cells.{Cells}
use Rattle.file_cells.specs.declared.cells.Cells.TheVariants.{Nothing, Read, Wrong}
use Rattle.file_cells.specs.declared.fault.BadCell.{BadCell}
use Rattle.file_cells.specs.declared.fault.FileFault.{FileFault}
use Rattle.file_cells.specs.declared.fault.FileFault.TheVariants.{Header, Cell}
use Rattle.file_cells.specs.Rows.{mismatch_of, wrong_of}

-- no file has more rows
abbrev pub most_rows : ℕ
most_rows = 2 ^ 31

-- its header matches, each cell has a value, and the readers have read them
pub record HasReadCells (columns : List ColumnOf) (raw : RawTable) (readers : List ReaderOf) : Type 0 where
  pub header_matches : mismatch_of columns raw.header ≡ None
  pub right : wrong_of 0 columns raw.rows ≡ None
  pub read : HaveRead most_rows columns (rows_in columns raw.rows) readers

-- its header does not match, or it does and a cell has no value
abbrev pub IsWrong : List ColumnOf → RawTable → FileFault → Type 0
IsWrong columns raw (Header col) = mismatch_of columns raw.header ≡ Some col
IsWrong columns raw (Cell bad) =
    (mismatch_of columns raw.header ≡ None) × (wrong_of 0 columns raw.rows ≡ Some (bad.row, bad.col, bad.fault)) × (bad.fault ≢ NoMemory)
IsWrong columns raw fault = ⊥

-- the cells of a table
abbrev pub HasTableCells : List ColumnOf → RawTable → Cells → Type 0
HasTableCells columns raw Nothing = ⊥
HasTableCells columns raw (Read readers) = HasReadCells columns raw readers.items
HasTableCells columns raw (Wrong fault) = IsWrong columns raw fault

-- the cells of the first lines of a file, if they are a table
abbrev pub HasLineCells : List ColumnOf → List ℕ → FirstLines → Cells → Type 0
HasLineCells columns bytes lines.Nothing cells = Unit {0}
HasLineCells columns bytes (lines.Table size) cells = (raw : RawTable) × IsRawTable bytes raw × HasSize raw size × HasTableCells columns raw cells
HasLineCells columns bytes (lines.Faulty fault) cells = Unit {0}

-- the cells of a table with more rows, the first of which has that number
abbrev pub AddsRows : List ColumnOf → ℕ → List ReaderOf → List (List RawField) → Cells → Type 0
AddsRows columns first readers rows cells =
    (raw : RawTable) → first ≡ length raw.rows → HasReadCells columns raw readers → HasTableCells columns (with_rows raw rows) cells

-- the first lines of some file have these cells, and are a table with the others
abbrev pub MayAddLines : List ColumnOf → FirstLines → Cells → RawTable → Type 0
MayAddLines columns lines cells file = (bytes : List ℕ) × (whole : List ℕ) × (new : FirstLines) × (length whole ≤ most_rows)
    × HasLineCells columns bytes lines cells × Continues bytes whole lines file (HasLines new)

-- these are the cells of all of them
abbrev pub AddsLines : List ColumnOf → FirstLines → Cells → RawTable → Cells → Type 0
AddsLines columns lines cells file all = (bytes whole : List ℕ) (new : FirstLines) → HasLineCells columns bytes lines cells → Continues bytes whole lines file (HasLines new)
    → HasLineCells columns whole new all

-- the cells of rows that are read, or the first that has no value
abbrev pub GivesCells : {A : Type 0} → Result (Vec ReaderOf A) BadCell → Cells → Type 0
GivesCells (Ok readers) (Read new) = new.items ≡ readers.items
GivesCells (Err bad) (Wrong fault) = (fault ≡ Cell bad) × (bad.fault ≢ NoMemory)
GivesCells read cells = ⊥
