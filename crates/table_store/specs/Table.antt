-- Annotated tables: what a table's file means under its schema (Model for Tabular Data and Metadata on the Web, section 4).
pub use Rattle.file_cells.specs.Rows.{is_called, mismatch_from, value_then, values_from, row_then, rows_from}
use Rattle.std.specs.Prelude.{◌≡◌, ℕ, List, None, Some, Ok, Err}
use Rattle.csv_grammar.specs.Records.{Field}
use Rattle.csv_grammar.specs.Files.{IsTable}
use Rattle.cell_types.specs.declared.fault.CellFault.{CellFault}
use Rattle.cell_types.specs.Value.{CellValue}
use Rattle.csvw_meta.specs.Schema.{SchemaOf}
use Rattle.key_index.specs.Key.{key_index, null_row, repeated_row}

-- a schema, and the rows of values in order
pub record TableOf : Type 0 where
  pub schema : SchemaOf
  pub rows : List (List CellValue)

-- the file is a table whose header matches the schema and whose cells have these values
pub record HasCells (schema : SchemaOf) (bytes : List ℕ) (table : TableOf) : Type 0 where
  pub header : List Field
  pub records : List (List Field)
  pub is : IsTable bytes header records
  pub header_matches : mismatch_from 0 schema.columns header ≡ None
  pub of_schema : table.schema ≡ schema
  pub values : rows_from 0 schema.columns records ≡ Ok table.rows

-- the keys of the rows of a table
abbrev pub keys_of : TableOf → List (List CellValue)
keys_of table = key_index table.schema.key table.rows

-- the file is the table of that schema: its keys have no null, and no row has that of an earlier one
pub record IsAnnotated (schema : SchemaOf) (bytes : List ℕ) (table : TableOf) : Type 0 where
  pub cells : HasCells schema bytes table
  pub whole : null_row (keys_of table) ≡ None
  pub distinct : repeated_row (keys_of table) ≡ None

-- the file is a table whose header does not match at the place
pub record HasOtherHeader (schema : SchemaOf) (bytes : List ℕ) (place : ℕ) : Type 0 where
  pub header : List Field
  pub records : List (List Field)
  pub is : IsTable bytes header records
  pub first : mismatch_from 0 schema.columns header ≡ Some place

-- the file is a table whose header matches, with a cell that has no value
pub record HasBadCell (schema : SchemaOf) (bytes : List ℕ) (row col : ℕ) (fault : CellFault) : Type 0 where
  pub header : List Field
  pub records : List (List Field)
  pub is : IsTable bytes header records
  pub header_matches : mismatch_from 0 schema.columns header ≡ None
  pub first : rows_from 0 schema.columns records ≡ Err (row, col, fault)

-- each cell of the file has a value, and the key of a row is the first with a null
pub record HasNullKey (schema : SchemaOf) (bytes : List ℕ) (row : ℕ) : Type 0 where
  pub table : TableOf
  pub cells : HasCells schema bytes table
  pub first : null_row (keys_of table) ≡ Some row

-- no key has a null, and a row is the first whose key is that of an earlier one
pub record HasKeyTwice (schema : SchemaOf) (bytes : List ℕ) (row : ℕ) : Type 0 where
  pub table : TableOf
  pub cells : HasCells schema bytes table
  pub whole : null_row (keys_of table) ≡ None
  pub first : repeated_row (keys_of table) ≡ Some row
