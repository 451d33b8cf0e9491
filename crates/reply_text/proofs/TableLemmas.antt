-- The tables of a folder have rows that CSV can say.
use Rattle.std.proofs.Common.{◌≡◌, ℕ, ◌+◌, ◌<◌, ◌≤◌, true, List, [], ◌∷◌, length, map, Option, Some, None, Result, Ok, Err, refl, subst, arith, tests}
use Rattle.std.specs.Prelude.{option_map, IsTrue}
use Rattle.std.specs.List.{AllByRecursion, list_all}
use Rattle.std.specs.Char.{is_ascii_alphabetic}
use Rattle.std.proofs.lemmas.Bool.{and_parts}
use Rattle.std.proofs.lemmas.List.{length-map}
use Rattle.std.proofs.lemmas.List.Elements.{All-from_recursion, recursion_from_All}
use Rattle.csv_grammar.specs.Records.{Field, content, is_plain, unquoted, IsField}
use Rattle.csv_grammar.specs.Files.{HasWidth}
use Rattle.cell_types.specs.declared.fault.CellFault.{CellFault}
use Rattle.cell_types.specs.Value.{CellValue}
use Rattle.cell_types.specs.Column.{ColumnOf}
use Rattle.cell_types.specs.Cell.{value_of}
use Rattle.csvw_meta.specs.Limits.{LimitsOf}
use Rattle.csvw_meta.specs.Forms.{is_name_byte, is_column_name}
use Rattle.csvw_meta.specs.Schema.{SchemaOf}
use Rattle.csvw_meta.specs.Document.{schemas_of}
use Rattle.csvw_meta.specs.Laws.{IsAccepted, AcceptedSchemas}
use Rattle.table_store.specs.Table.{TableOf, mismatch_from, value_then, values_from, row_then, rows_from}
use Rattle.table_store.specs.File.{file_named, FileOf}
use Rattle.table_store.specs.Catalog.{HasTable, HaveTables}
use Rattle.result_rows.specs.Rows.{rows_of_table}
use Rattle.reply_text.specs.Laws.{FitCsv, TablesFitCsv}

-- ---- names of columns

-- bytes above the comma
abbrev AreAbove : List ℕ → Type 0
AreAbove bytes = AllByRecursion (λ b. 45 ≤ b) bytes

plain_above : (b : ℕ) → 45 ≤ b → IsTrue (is_plain b)
plain_above b above = grind (arith, tests)

plain-from_above : (bytes : List ℕ) → AreAbove bytes → AllByRecursion (λ b. IsTrue (is_plain b)) bytes
plain-from_above [] above = tt
plain-from_above (b ∷ bytes) above = (plain_above b above.0, plain-from_above bytes above.1)

letter_above : (b : ℕ) → is_ascii_alphabetic b ≡ true → 45 ≤ b
letter_above b h = grind (arith, tests)

name_byte_above : (b : ℕ) → is_name_byte b ≡ true → 45 ≤ b
name_byte_above b h = grind (arith, tests)

bytes_above : (bytes : List ℕ) → list_all is_name_byte bytes ≡ true → AreAbove bytes
bytes_above [] all = tt
bytes_above (b ∷ bytes) all = let parts = and_parts _ _ all in (name_byte_above b parts.0, bytes_above bytes parts.1)

plain_name : (name : List ℕ) → is_column_name name ≡ true → IsField (unquoted name)
plain_name [] is = tt
plain_name (b ∷ bytes) is =
    let word = (and_parts _ _ is).1 in
    let parts = and_parts _ _ word in
    plain-from_above (b ∷ bytes) (letter_above b (and_parts _ _ parts.0).1, bytes_above bytes parts.1)

names_plain : (columns : List ColumnOf) → AllByRecursion (λ (column : ColumnOf). is_column_name column.name ≡ true) columns
    → AllByRecursion (λ name. IsField (unquoted name)) (map (λ column. column.name) columns)
names_plain [] each = tt
names_plain (column ∷ columns) each = (plain_name column.name each.0, names_plain columns each.1)

-- ---- rows

-- a row has a value for its first field
value_then_some : (place : ℕ) (value : Result CellValue CellFault) (others : Result (List CellValue) (ℕ × CellFault)) (values : List CellValue)
    → value_then place value others ≡ Ok values → 0 < length values
value_then_some place (Ok value) (Ok others) values e = let same : value ∷ others ≡ values = cc in rw (← same) (omega arith)
value_then_some place (Ok value) (Err later) values e = let no : ⊥ = cc in absurd no
value_then_some place (Err fault) others values e = let no : ⊥ = cc in absurd no

values_some : (columns : List ColumnOf) (fields : List Field) (values : List CellValue) → 0 < length columns → 0 < length fields
    → values_from 0 columns fields ≡ Ok values → 0 < length values
values_some [] fields values some_columns some_fields e = absurd (omega (arith, some_columns))
values_some (column ∷ columns) [] values some_columns some_fields e = absurd (omega (arith, some_fields))
values_some (column ∷ columns) (field ∷ fields) values some_columns some_fields e =
    value_then_some 0 (value_of column (content field)) (values_from 1 columns fields) values e

abbrev HaveValues : List (List CellValue) → Type 0
HaveValues rows = AllByRecursion (λ row. 0 < length row) rows

row_then_some : (place : ℕ) (row : Result (List CellValue) (ℕ × CellFault)) (others : Result (List (List CellValue)) (ℕ × ℕ × CellFault))
    (rows : List (List CellValue)) → ((values : List CellValue) → row ≡ Ok values → 0 < length values)
    → ((more : List (List CellValue)) → others ≡ Ok more → HaveValues more) → row_then place row others ≡ Ok rows → HaveValues rows
row_then_some place (Ok values) (Ok more) rows first behind e =
    let same : values ∷ more ≡ rows = cc in subst HaveValues same (first values refl, behind more refl)
row_then_some place (Ok values) (Err later) rows first behind e = let no : ⊥ = cc in absurd no
row_then_some place (Err found) others rows first behind e = let no : ⊥ = cc in absurd no

rows_some : (place : ℕ) (columns : List ColumnOf) (records : List (List Field)) (rows : List (List CellValue)) → 0 < length columns
    → AllByRecursion (λ fields. 0 < length fields) records → rows_from place columns records ≡ Ok rows → HaveValues rows
rows_some place columns [] rows some each e = let same : [] ≡ rows = cc in subst HaveValues same tt
rows_some place columns (fields ∷ records) rows some each e =
    row_then_some place (values_from 0 columns fields) (rows_from (place + 1) columns records) rows
    (λ values f. values_some columns fields values some each.0 f) (λ more f. rows_some (place + 1) columns records more some each.1 f) e

-- a header that matches columns has a cell
header_some : (columns : List ColumnOf) (header : List Field) → 0 < length columns → mismatch_from 0 columns header ≡ None → 0 < length header
header_some [] header some e = absurd (omega (arith, some))
header_some (column ∷ columns) [] some e = let no : ⊥ = cc in absurd no
header_some (column ∷ columns) (field ∷ header) some e = omega arith

wide_some : (width : ℕ) (records : List (List Field)) → 0 < width → AllByRecursion (HasWidth width) records
    → AllByRecursion (λ fields. 0 < length fields) records
wide_some width [] some wide = tt
wide_some width (fields ∷ records) some wide = (omega (arith, wide.0), wide_some width records some wide.1)

-- ---- tables

-- the table of an accepted schema
table_fits : (limits : LimitsOf) (limit : ℕ) (file : Option (List ℕ)) (schema : SchemaOf) (table : TableOf) → IsAccepted limits schema
    → HasTable limit file schema table → FitCsv (rows_of_table table)
table_fits limits limit file schema table accepted has =
    let is = has.is.cells in
    let some : 0 < length schema.columns = omega (arith, accepted.some) in
    record {
      some = rw is.of_schema (omega (arith, accepted.some, length-map schema.columns (λ (column : ColumnOf). column.name)));
      names = rw is.of_schema (names_plain schema.columns (recursion_from_All _ schema.columns accepted.names));
      values = rows_some 0 schema.columns is.records table.rows some
          (wide_some (length is.header) is.records (header_some schema.columns is.header some is.header_matches) is.is.widths) is.values;
    }

tables_fit : (limits : LimitsOf) (limit : ℕ) (files : List FileOf) (schemas : List SchemaOf) (tables : List TableOf)
    → AllByRecursion (IsAccepted limits) schemas → HaveTables limit files schemas tables
    → AllByRecursion (λ (table : TableOf). FitCsv (rows_of_table table)) tables
tables_fit limits limit files [] [] accepted have = tt
tables_fit limits limit files [] (table ∷ tables) accepted have = absurd have
tables_fit limits limit files (schema ∷ schemas) [] accepted have = absurd have
tables_fit limits limit files (schema ∷ schemas) (table ∷ tables) accepted have =
    (table_fits limits limit (file_named schema.url files) schema table accepted.0 have.0, tables_fit limits limit files schemas tables accepted.1 have.1)

-- metadata that was read is there
meta_is : (limits : LimitsOf) (meta : Option (List ℕ)) (schemas : List SchemaOf) → option_map (schemas_of limits) meta ≡ Some (Ok schemas)
    → (bytes : List ℕ) × (schemas_of limits bytes ≡ Ok schemas)
meta_is limits None schemas e = let no : ⊥ = cc in absurd no
meta_is limits (Some bytes) schemas e = (bytes, cc)

pub tables_of_folder : AcceptedSchemas → TablesFitCsv
tables_of_folder laws folder catalog some means =
    let read = meta_is folder.limits folder.meta means.schemas means.read in
    let accepted = laws folder.limits read.0 means.schemas some read.1 in
    All-from_recursion _ catalog.tables
    (tables_fit folder.limits folder.limits.file folder.files means.schemas catalog.tables
    (recursion_from_All _ means.schemas accepted.each) means.tables)
