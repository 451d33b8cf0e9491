-- A file that is read window by window as it comes: its columns, or what is first wrong with it before its keys.
use Rattle.std.specs.Prelude.{◌≡◌, ◌≢◌, ℕ, ◌+◌, ◌-◌, ◌^◌, ◌<◌, ◌≤◌, Bool, true, false, List, ◌++◌, length, take, drop, None, Some, nat_lt, if◌then◌else◌}
use Rattle.cell_types.specs.Column.{ColumnOf}
use Rattle.csv_grammar.specs.Files.{FileCause, IsFileFault}
use Rattle.csv_grammar.specs.Raw.{RawField, RawTable}
use Rattle.csv_index.specs.Index.{IsRawTable}
use Rattle.csv_index.specs.Fault.{text_cause}
use Rattle.csv_fields.specs.Values.{rows_in}
use Rattle.csv_windows.specs.Windows.{BeginsFile}
use Rattle.column_blocks.specs.TypedColumn.{AreTyped, ColumnCells}
use Rattle.file_cells.specs.declared.cells.Cells.{Cells}
use Rattle.file_cells.specs.declared.fault.FileFault.{FileFault}
use Rattle.file_cells.specs.declared.fault.FileFault.TheVariants.{Text, Header, Cell, NoMemory}
use Rattle.file_cells.specs.declared.file_reading.FileCells.{FileCells}
use Rattle.file_cells.specs.declared.file_reading.FileReading.{FileReading}
use Rattle.file_cells.specs.declared.file_reading.FileStep.{FileStep}
use Rattle.file_cells.specs.declared.file_reading.FileStep.TheVariants.{On, Over}
use Rattle.file_cells.specs.declared.loader.Loader.{Loader}
use Rattle.file_cells.specs.Cells.{most_rows, HasLineCells, HasTableCells, IsWrong}
use Rattle.file_cells.specs.Rows.{mismatch_of, wrong_of}

-- this is the first thing that is wrong with the file; nothing is said of it if memory ran out
abbrev pub IsWrongFile : List ColumnOf → List ℕ → FileFault → Type 0
IsWrongFile columns bytes (Text fault) = (cause : FileCause) × (text_cause fault ≡ Some cause) × IsFileFault bytes cause
IsWrongFile columns bytes (Header col) = (raw : RawTable) × IsRawTable bytes raw × IsWrong columns raw (Header col)
IsWrongFile columns bytes (Cell bad) = (raw : RawTable) × IsRawTable bytes raw × IsWrong columns raw (Cell bad)
IsWrongFile columns bytes NoMemory = Unit {0}

-- the columns of rows in which nothing is wrong
pub record HasColumns (columns : List ColumnOf) (rows : List (List RawField)) (read : List ColumnCells) : Type 0 where
  pub cells : AreTyped columns (rows_in columns rows) read
  pub right : wrong_of 0 columns rows ≡ None

-- the file is a table whose header matches, and these are its columns
pub record HasCellsOf (columns : List ColumnOf) (bytes : List ℕ) (read : FileCells) : Type 0 where
  pub raw : RawTable
  pub is : IsRawTable bytes raw
  pub header_matches : mismatch_of columns raw.header ≡ None
  pub cells : HasColumns columns raw.rows read.columns.items
  pub count : read.rows ≡ length raw.rows

-- the cells of a file of that many rows
pub record HasFileCells (columns : List ColumnOf) (file : List ℕ) (rows : ℕ) (cells : Cells) : Type 0 where
  pub raw : RawTable
  pub is : IsRawTable file raw
  pub count : rows ≡ length raw.rows
  pub has : HasTableCells columns raw cells

-- ---- the windows

-- these first bytes of a file are read
pub record HasReadTo (columns : List ColumnOf) (bytes : List ℕ) (loader : Loader) : Type 0 where
  pub front : BeginsFile bytes loader.front
  pub cells : HasLineCells columns bytes loader.front.lines loader.cells

-- and the window has the next ones
pub record LoadsWindow (columns : List ColumnOf) (bytes window : List ℕ) (loader : Loader) : Type 0 where
  pub read : HasReadTo columns bytes loader
  pub short : length bytes + length window ≤ most_rows

-- some of the window is read, or nothing of it
pub record ReadsLinesOf (columns : List ColumnOf) (bytes window : List ℕ) (new : Loader) : Type 0 where
  pub taken : ℕ
  pub within : taken ≤ length window
  pub read : HasReadTo columns (bytes ++ take taken window) new

-- the file is refused, whatever follows the window
abbrev pub RefusesWindow : List ColumnOf → List ℕ → Loader → FileFault → Type 0
RefusesWindow columns window loader fault = (bytes more : List ℕ) → LoadsWindow columns bytes window loader → IsWrongFile columns ((bytes ++ window) ++ more) fault

-- the window is the rest of the file, whose columns these are, or which is refused
abbrev pub ReadsToEnd : List ColumnOf → List ℕ → Loader → FileCells → Type 0
ReadsToEnd columns rest loader read = (bytes : List ℕ) → LoadsWindow columns bytes rest loader → HasCellsOf columns (bytes ++ rest) read

abbrev pub RefusesAtEnd : List ColumnOf → List ℕ → Loader → FileFault → Type 0
RefusesAtEnd columns rest loader fault = (bytes : List ℕ) → LoadsWindow columns bytes rest loader → IsWrongFile columns (bytes ++ rest) fault

-- ---- the file as it comes

-- the bytes that were given and are not read
abbrev pub unread_of : FileReading → List ℕ
unread_of reading = drop reading.at reading.window.items

-- how many bytes were given
abbrev pub given_len : FileReading → ℕ
given_len reading = reading.loader.front.len + (length reading.window.items - reading.at)

-- these bytes of a file were given, of which the first lines are read
pub record IsReading (columns : List ColumnOf) (given : List ℕ) (reading : FileReading) : Type 0 where
  pub front : List ℕ
  pub is : given ≡ front ++ unread_of reading
  pub read : HasReadTo columns front reading.loader
  pub within : reading.at ≤ length reading.window.items
  pub short : length given ≤ 2 ^ 30
  pub some : 0 < reading.size
  pub size : reading.size ≤ 2 ^ 31

-- no more than these steps and pieces are left: each step reads a byte at least, or makes the window larger, and each piece has a byte, or is the end
abbrev pub reading_left : FileReading → ℕ
reading_left reading = (2 ^ 30 - reading.loader.front.len) + (2 ^ 31 - reading.size) + (2 ^ 30 - given_len reading) + (if reading.ended then 0 else 1)

-- the next step is to have more of the file: less than a window was given of what is not read, and the file goes on
abbrev pub wants_more : FileReading → Bool
wants_more reading = if reading.ended then false else nat_lt (length reading.window.items - reading.at) reading.size

-- fewer steps are left, or the file is read that was given
abbrev pub GoesOnReading : List ColumnOf → List ℕ → FileReading → FileStep → Type 0
GoesOnReading columns given old (On new) = IsReading columns given new × (reading_left new < reading_left old)
GoesOnReading columns given old (Over read) = HasCellsOf columns given read

abbrev pub StepsOn : List ColumnOf → FileReading → FileStep → Type 0
StepsOn columns old step = (given : List ℕ) → IsReading columns given old → GoesOnReading columns given old step

-- the file is refused, whatever follows, if anything may
abbrev pub RefusesGiven : List ColumnOf → FileReading → FileFault → Type 0
RefusesGiven columns old fault = (given more : List ℕ) → IsReading columns given old → (old.ended ≡ true → length more ≡ 0) → IsWrongFile columns (given ++ more) fault
