-- What is known of the cells of the first lines of a file, of which those of the key's columns alone are kept.
use Rattle.std.specs.Prelude.{◌≡◌, ℕ, ◌==◌, ◌≤◌, true, List, length, None, Some, Option, Result, Ok, Err, Vec, slice_get}
use Rattle.std.specs.Global.{Global}
use Rattle.std.specs.List.{list_any}
use Rattle.block_summary.specs.Ranges.{column_of}
use Rattle.cell_types.specs.Column.{ColumnOf}
use Rattle.cell_types.specs.Value.{CellValue}
use Rattle.csv_fields.specs.Values.{rows_in}
use Rattle.csv_grammar.specs.Raw.{RawField, RawTable}
use Rattle.csv_index.specs.Index.{IsRawTable}
use Rattle.csv_windows.specs.Windows.{with_rows, Continues, HasLines, HasSize}
use Rattle.csv_windows.specs.declared.front.FirstLines.{FirstLines}
use Rattle.csv_windows.specs.declared.front.FirstLines.TheVariants as lines
use Rattle.column_blocks.specs.ColumnReader.{reader_at, ReaderOf}
use Rattle.csvw_meta.specs.Schema.{SchemaOf}
use Rattle.file_cells.specs.Cells.{most_rows, IsWrong}
use Rattle.file_cells.specs.Rows.{mismatch_of, wrong_of}
use Rattle.file_cells.specs.declared.fault.FileFault.{FileFault}
use Rattle.file_cells.specs.declared.fault.FileFault.TheVariants.{NoMemory}

-- the reader of a column has all of its cells in the rows, if the column is in the key, and else some cells
pub record KeepsCells (key : List ℕ) (rows : List (List CellValue)) (col : ℕ) (column : ColumnOf) (reader : Option ReaderOf) : Type 0 where
  pub cells : List CellValue
  pub is : reader ≡ Some (reader_at most_rows column cells)
  pub few : length cells ≤ length rows
  pub whole : list_any (λ place. place == col) key ≡ true → cells ≡ column_of rows col

-- so has that of each column
pub record AreKept (schema : SchemaOf) (rows : List (List CellValue)) (readers : List ReaderOf) : Type 0 where
  pub count : length readers ≡ length schema.columns
  pub each : (col : ℕ) (column : ColumnOf) → slice_get schema.columns col ≡ Some column → KeepsCells schema.key rows col column (slice_get readers col)

-- the header of a table matches, each cell has a value, and those of the key's columns are kept
pub record HasRight (schema : SchemaOf) (raw : RawTable) (readers : List ReaderOf) : Type 0 where
  pub header_matches : mismatch_of schema.columns raw.header ≡ None
  pub right : wrong_of 0 schema.columns raw.rows ≡ None
  pub kept : AreKept schema (rows_in schema.columns raw.rows) readers

-- or its header does not match, or a cell has no value; nothing is said if memory ran out
abbrev pub HasChecked : SchemaOf → RawTable → Result (Vec ReaderOf Global) FileFault → Type 0
HasChecked schema raw (Ok readers) = HasRight schema raw readers.items
HasChecked schema raw (Err NoMemory) = Unit {0}
HasChecked schema raw (Err fault) = IsWrong schema.columns raw fault

-- the same of the first lines of a file, if they are a table
abbrev pub HasKeptLines : SchemaOf → List ℕ → FirstLines → Result (Vec ReaderOf Global) FileFault → Type 0
HasKeptLines schema bytes lines.Nothing cells = Unit {0}
HasKeptLines schema bytes (lines.Table size) cells = (raw : RawTable) × IsRawTable bytes raw × HasSize raw size × HasChecked schema raw cells
HasKeptLines schema bytes (lines.Faulty fault) cells = Unit {0}

-- the cells of a table with more rows, the first of which has that number
abbrev pub AddsKeptRows : SchemaOf → ℕ → List ReaderOf → List (List RawField) → Result (Vec ReaderOf Global) FileFault → Type 0
AddsKeptRows schema first readers rows cells =
    (raw : RawTable) → first ≡ length raw.rows → HasRight schema raw readers → HasChecked schema (with_rows raw rows) cells

-- the first lines of some file have these cells, and are a table with the others
abbrev pub MayAddKeptLines : SchemaOf → FirstLines → Result (Vec ReaderOf Global) FileFault → RawTable → Type 0
MayAddKeptLines schema first cells file = (bytes : List ℕ) × (whole : List ℕ) × (new : FirstLines) × (length whole ≤ most_rows)
    × HasKeptLines schema bytes first cells × Continues bytes whole first file (HasLines new)

-- these are the cells of all of them
abbrev pub AddsKeptLines : SchemaOf → FirstLines → Result (Vec ReaderOf Global) FileFault → RawTable → Result (Vec ReaderOf Global) FileFault → Type 0
AddsKeptLines schema first cells file all = (bytes whole : List ℕ) (new : FirstLines) → HasKeptLines schema bytes first cells
    → Continues bytes whole first file (HasLines new) → HasKeptLines schema whole new all
