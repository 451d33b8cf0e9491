-- Why a folder is refused, and the text of it.
use Rattle.std.specs.Prelude.{ℕ, List, ◌++◌, codes, Option, None, Some, option_map, string_bytes}
use Rattle.std.specs.Fmt.{decimal}
use Rattle.csv_grammar.specs.Files.{FileCause}
use Rattle.csv_index.specs.Fault.{text_cause, text_fault_text}
use Rattle.cell_types.specs.declared.fault.CellFault.{CellFault}
use Rattle.cell_types.specs.declared.fault.CellFault.TheVariants as cell
use Rattle.cell_types.specs.Fault.{cell_fault_name}
use Rattle.csvw_meta.specs.Fault.{MetaCause, meta_cause, meta_fault_text}
use Rattle.table_store.specs.declared.fault.LoadFault.{LoadFault}
use Rattle.table_store.specs.declared.fault.LoadFault.TheVariants.{Meta, FileMissing, FileTooLarge, Text, Header, Cell, KeyNull, KeyTwice, NoMemory}

-- why a table is refused
pub data TableCause : Type 0 where
  file_missing : TableCause
  file_too_large : TableCause
  bad_text : FileCause → TableCause
  -- the first place where a column and a header cell do not match or one is missing
  bad_header : ℕ → TableCause
  -- the first cell, row by row, that has no value, by its row and column, and why
  bad_cell : ℕ → ℕ → CellFault → TableCause
  -- the first row whose key has a null
  key_null : ℕ → TableCause
  -- the first row whose key is that of an earlier row
  key_twice : ℕ → TableCause

-- why a folder is refused: it has no metadata, its metadata is refused, or the table of that url is
pub data LoadCause : Type 0 where
  no_metadata : LoadCause
  bad_meta : MetaCause → LoadCause
  bad_table : List ℕ → TableCause → LoadCause

-- the fault of a cell; none, where memory ran out
abbrev pub cell_cause : CellFault → Option CellFault
cell_cause cell.NoMemory = None
cell_cause fault = Some fault

-- the cause that an error is; none, where memory ran out
abbrev pub load_cause : LoadFault → Option LoadCause
load_cause (Meta fault) = option_map bad_meta (meta_cause fault)
load_cause (FileMissing table) = Some (bad_table (string_bytes table) file_missing)
load_cause (FileTooLarge table) = Some (bad_table (string_bytes table) file_too_large)
load_cause (Text table fault) = option_map (λ f. bad_table (string_bytes table) (bad_text f)) (text_cause fault)
load_cause (Header table col) = Some (bad_table (string_bytes table) (bad_header col))
load_cause (Cell table row col fault) = option_map (λ f. bad_table (string_bytes table) (bad_cell row col f)) (cell_cause fault)
load_cause (KeyNull table row) = Some (bad_table (string_bytes table) (key_null row))
load_cause (KeyTwice table row) = Some (bad_table (string_bytes table) (key_twice row))
load_cause NoMemory = None

-- a file, and what is wrong with it
abbrev pub file_text : List ℕ → List ℕ → List ℕ
file_text file cause = file ++ codes ": " ++ cause

-- the file that is refused, and why
abbrev pub load_fault_text : LoadFault → List ℕ
load_fault_text (Meta fault) = file_text (codes "csv-metadata.json") (meta_fault_text fault)
load_fault_text (FileMissing table) = file_text (string_bytes table) (codes "FileMissing")
load_fault_text (FileTooLarge table) = file_text (string_bytes table) (codes "FileTooLarge")
load_fault_text (Text table fault) = file_text (string_bytes table) (text_fault_text fault)
load_fault_text (Header table col) = file_text (string_bytes table) (codes "Header col " ++ decimal col)
load_fault_text (Cell table row col fault) =
    file_text (string_bytes table) (codes "Cell row " ++ decimal row ++ codes " col " ++ decimal col ++ codes " " ++ cell_fault_name fault)
load_fault_text (KeyNull table row) = file_text (string_bytes table) (codes "KeyNull row " ++ decimal row)
load_fault_text (KeyTwice table row) = file_text (string_bytes table) (codes "KeyTwice row " ++ decimal row)
load_fault_text NoMemory = codes "NoMemory"
