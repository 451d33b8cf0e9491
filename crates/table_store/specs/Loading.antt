-- What the steps of loading a table find.
use Rattle.std.specs.Prelude.{◌≡◌, ℕ, List, length, map, Option, None, Some, Ok, option_map}
use Rattle.std.specs.Result.{result_err}
use Rattle.std.specs.List.{IsDistinct}
use Rattle.std.specs.Str.{bytes_eq}
use Rattle.csv_grammar.specs.Files.{IsFileFault}
use Rattle.csv_grammar.specs.Raw.{RawField, field_of}
use Rattle.csv_grammar.specs.Raw.{RawTable}
use Rattle.csv_index.specs.Index.{IsRawTable}
use Rattle.csv_index.specs.Fault.{text_cause}
use Rattle.cell_types.specs.declared.fault.CellFault.{CellFault}
use Rattle.cell_types.specs.Value.{CellValue}
use Rattle.cell_types.specs.Column.{ColumnOf}
use Rattle.csvw_meta.specs.declared.schema.Schema.{Schema}
use Rattle.csvw_meta.specs.Schema.{SchemaOf, schema_view}
use Rattle.table_store.specs.declared.table_fault.TableFault.{TableFault}
use Rattle.table_store.specs.declared.table_fault.TableFault.TheVariants.{File, Key, NoMemory}
use Rattle.file_cells.specs.declared.fault.FileFault.{FileFault}
use Rattle.file_cells.specs.declared.fault.FileFault.TheVariants as wrong
use Rattle.file_cells.specs.Rows.{mismatch_of}
use Rattle.table_store.specs.Table.{TableOf, rows_from, HasOtherHeader, HasBadCell, HasNullKey, HasKeyTwice}
use Rattle.table_store.specs.Fault.{TableCause, file_missing, file_too_large, bad_text, bad_header, bad_cell, key_null, key_twice, cell_cause, LoadCause, no_metadata, bad_meta, bad_table}
use Rattle.table_store.specs.File.{FileOf}
use Rattle.key_index.specs.Key.{key_index, null_row, repeated_row}
use Rattle.key_index.specs.Keys.{AreColumns, AreKeysOf}
use Rattle.key_index.specs.declared.keys.KeyFault.{KeyFault}
use Rattle.key_index.specs.declared.reading.KeyedRows.{KeyedRows}
use Rattle.key_index.specs.declared.keys.KeyFault.TheVariants.{Null, Twice}
use Rattle.column_blocks.specs.TypedColumn.{AreTyped}
use Rattle.table_store.specs.Catalog.{HasFile, HasTableCause, IsFirstBadTable}
use Rattle.csv_fields.specs.Values.{rows_in, AllHaveValues, FitsColumns}

-- the table of a schema and the fields of its file
abbrev pub table_at : SchemaOf → RawTable → TableOf
table_at schema file = record { schema = schema; rows = rows_in schema.columns file.rows }

-- the file is a table whose header matches the columns and whose cells have values
pub record IsTableAt (columns : List ColumnOf) (bytes : List ℕ) (file : RawTable) : Type 0 where
  pub is : IsRawTable bytes file
  pub header_matches : mismatch_of columns file.header ≡ None
  pub rows : rows_from 0 columns (map (map field_of) file.rows) ≡ Ok (rows_in columns file.rows)
  pub fits : FitsColumns columns file
  pub values : AllHaveValues columns file.rows

-- there is a file, not above the limit, that is such a table
abbrev pub IsTableOf : ℕ → Option (List ℕ) → SchemaOf → RawTable → Type 0
IsTableOf limit file schema table = (bytes : List ℕ) × HasFile limit file bytes × IsTableAt schema.columns bytes table

-- the cause that a fault of the keys is
abbrev pub key_cause : KeyFault → TableCause
key_cause (Null row) = key_null row
key_cause (Twice row) = key_twice row

-- the cause that an error is; none, where memory ran out
abbrev pub file_cause : FileFault → Option TableCause
file_cause (wrong.Text fault) = option_map bad_text (text_cause fault)
file_cause (wrong.Header col) = Some (bad_header col)
file_cause (wrong.Cell bad) = option_map (bad_cell bad.row bad.col) (cell_cause bad.fault)
file_cause wrong.NoMemory = None

abbrev pub table_cause : TableFault → Option TableCause
table_cause (File fault) = file_cause fault
table_cause (Key fault) = Some (key_cause fault)
table_cause NoMemory = None

-- the keys of rows of fields
abbrev pub keys_at : SchemaOf → List (List RawField) → List (List CellValue)
keys_at schema rows = key_index schema.key (rows_in schema.columns rows)

-- these rows of fields were read, with these columns and keys
pub record ArePartsOf (schema : SchemaOf) (rows : List (List RawField)) (parts : KeyedRows) : Type 0 where
  pub count : parts.rows ≡ length rows
  pub columns : AreTyped schema.columns (rows_in schema.columns rows) parts.columns.items
  pub keys : AreKeysOf parts.keys (keys_at schema rows)

-- the first cell of rows of fields that has no value, and why
abbrev pub bad_cell_of : SchemaOf → List (List RawField) → Option (ℕ × ℕ × CellFault)
bad_cell_of schema rows = result_err (rows_from 0 schema.columns (map (map field_of) rows))

-- this is the first thing wrong with the rows: all cells come before the keys
abbrev pub HasRowsCause : SchemaOf → List (List RawField) → TableCause → Type 0
HasRowsCause schema rows (bad_cell row col fault) = bad_cell_of schema rows ≡ Some (row, col, fault)
HasRowsCause schema rows (key_null row) = (bad_cell_of schema rows ≡ None) × (null_row (keys_at schema rows) ≡ Some row)
HasRowsCause schema rows (key_twice row) =
    (bad_cell_of schema rows ≡ None) × (null_row (keys_at schema rows) ≡ None) × (repeated_row (keys_at schema rows) ≡ Some row)
HasRowsCause schema rows cause = ⊥

-- the places of a key are those of columns
abbrev pub HasKeyColumns : SchemaOf → Type 0
HasKeyColumns schema = AreColumns schema.key schema.columns

abbrev pub schema_views : List Schema → List SchemaOf
schema_views schemas = map schema_view schemas

-- no two schemas have one url
abbrev pub DifferInUrl : List SchemaOf → Type 0
DifferInUrl schemas = IsDistinct bytes_eq (map (λ (schema : SchemaOf). schema.url) schemas)

-- this is the first thing wrong with the bytes of the schema's file
abbrev pub HasFileCause : SchemaOf → List ℕ → TableCause → Type 0
HasFileCause schema bytes file_missing = ⊥
HasFileCause schema bytes file_too_large = ⊥
HasFileCause schema bytes (bad_text fault) = IsFileFault bytes fault
HasFileCause schema bytes (bad_header place) = HasOtherHeader schema bytes place
HasFileCause schema bytes (bad_cell row col fault) = HasBadCell schema bytes row col fault
HasFileCause schema bytes (key_null row) = HasNullKey schema bytes row
HasFileCause schema bytes (key_twice row) = HasKeyTwice schema bytes row

-- the table of the schema is refused under this cause
abbrev pub IsRefusedTable : ℕ → Option (List ℕ) → SchemaOf → LoadCause → Type 0
IsRefusedTable limit file schema no_metadata = ⊥
IsRefusedTable limit file schema (bad_meta cause) = ⊥
IsRefusedTable limit file schema (bad_table url cause) = (schema.url ≡ url) × HasTableCause limit file schema cause

-- a table of the schemas is the first that is refused, under this cause
abbrev pub IsFirstRefused : ℕ → List FileOf → List SchemaOf → LoadCause → Type 0
IsFirstRefused limit files schemas no_metadata = ⊥
IsFirstRefused limit files schemas (bad_meta cause) = ⊥
IsFirstRefused limit files schemas (bad_table url cause) = IsFirstBadTable limit files schemas url cause
