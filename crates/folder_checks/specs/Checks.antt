-- A file that is checked as it comes, and what is found of it.
use Rattle.std.specs.Prelude.{◌≡◌, ℕ, List, ◌++◌, length, Option, None, Some, IfSome}
use Rattle.column_blocks.specs.ColumnReader.{ReaderOf}
use Rattle.csv_grammar.specs.Raw.{RawField, RawTable}
use Rattle.csvw_meta.specs.Schema.{SchemaOf}
use Rattle.file_cells.specs.declared.fault.FileFault.{FileFault}
use Rattle.file_cells.specs.Reading.{IsWrongFile}
use Rattle.key_index.specs.Key.{null_row, repeated_row}
use Rattle.served_folders.specs.Folders.{greatest_limits}
use Rattle.table_store.specs.Catalog.{FolderOf}
use Rattle.table_store.specs.Fault.{TableCause, file_missing, file_too_large}
use Rattle.table_store.specs.File.{FileOf}
use Rattle.table_store.specs.Loading.{file_cause, key_cause, keys_at, HasRowsCause}
use Rattle.table_store.specs.Table.{IsAnnotated, TableOf}
use Rattle.folder_checks.specs.Cells.{HasKeptLines, HasRight}
use Rattle.folder_checks.specs.Windows.{fed_len, HasWindows}
use Rattle.folder_checks.specs.declared.fault.CheckFault.{CheckFault}
use Rattle.folder_checks.specs.declared.fault.CheckFault.TheVariants.{Missing, TooLarge, File, Key, NoMemory}
use Rattle.folder_checks.specs.declared.file_check.FileCheck.{FileCheck}

-- the cause that a fault is; none, if memory ran out
abbrev pub check_cause : CheckFault → Option TableCause
check_cause Missing = Some file_missing
check_cause TooLarge = Some file_too_large
check_cause (File fault) = file_cause fault
check_cause (Key fault) = Some (key_cause fault)
check_cause NoMemory = None

-- how many bytes were given
abbrev pub check_len : FileCheck → ℕ
check_len check = fed_len check.windows

-- these bytes of a file were given, and of the cells of the first lines that is known
pub record IsChecking (schema : SchemaOf) (given : List ℕ) (check : FileCheck) : Type 0 where
  pub front : List ℕ
  pub fed : HasWindows given front check.windows
  pub cells : HasKeptLines schema front check.windows.front.lines check.cells

-- the file is refused, whatever follows the bytes
abbrev pub RefusesAll : SchemaOf → List ℕ → FileCheck → FileFault → Type 0
RefusesAll schema bytes check fault = (given more : List ℕ) → IsChecking schema given check → IsWrongFile schema.columns ((given ++ bytes) ++ more) fault

-- the keys of rows have no null, and no row has that of an earlier one
abbrev pub AreWhole : SchemaOf → List (List RawField) → Type 0
AreWhole schema rows = (null_row (keys_at schema rows) ≡ None) × (repeated_row (keys_at schema rows) ≡ None)

-- the rows of right cells are refused
abbrev pub RefusesKeys : SchemaOf → ℕ → List ReaderOf → CheckFault → Type 0
RefusesKeys schema rows readers fault = (raw : RawTable) → rows ≡ length raw.rows → HasRight schema raw readers → IfSome (check_cause fault) (HasRowsCause schema raw.rows)

-- the file is some table of the schema
abbrev pub IsSomeTable : SchemaOf → List ℕ → Type 0
IsSomeTable schema bytes = (table : TableOf) × IsAnnotated schema bytes table

-- the folder of these files with that metadata, under the greatest limits
abbrev pub folder_of : List ℕ → List FileOf → FolderOf
folder_of meta files = record { limits = greatest_limits; meta = Some meta; files = files }
