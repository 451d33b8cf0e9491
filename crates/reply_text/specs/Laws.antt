-- What holds of the bodies. The values of JSON (RFC 8259) that they are: a text reads as at most one.
pub use Rattle.reply_values.specs.ReadBack.{field_of_value, json_of, FitsJson}
use Rattle.std.specs.Prelude.{◌≡◌, ℕ, ◌-◌, ◌^◌, ◌<◌, ◌≤◌, Bool, List, [], ◌∷◌, Option, None, Some, codes, length, map, true, IfSome}
use Rattle.std.specs.List.{All, AllByRecursion, concat, zip}
use Rattle.std.specs.Fmt.{decimal}
use Rattle.json.specs.Json as json
use Rattle.csv_grammar.specs.Records.{Field, unquoted, IsField, AreRecords}
use Rattle.cell_types.specs.Value.{CellValue}
use Rattle.table_store.specs.Catalog.{FolderOf, CatalogOf, Means}
use Rattle.result_rows.specs.Rows.{RowsOf, rows_of_table}
use Rattle.reply_values.specs.Printed.{printed_value}
use Rattle.reply_values.specs.Size.{told}
use Rattle.reply_text.specs.Body.{rows_text}
use Rattle.reply_text.specs.Csv.{csv_text}
use Rattle.reply_text.specs.Json.{json_row}
use Rattle.reply_text.specs.Pieces.{body_pieces, body_text}

abbrev pub members_of : List (List ℕ × CellValue) → json.Members
members_of [] = json.no_members
members_of (member ∷ members) = json.member member.0 (json_of member.1) (members_of members)

-- a row is an object: each name with its value, in order
abbrev pub object_of : List (List ℕ) → List CellValue → json.Json
object_of names values = json.object (members_of (zip names values))

abbrev pub items_of : List (List ℕ) → List (List CellValue) → json.Items
items_of names [] = json.no_items
items_of names (row ∷ rows) = json.item (object_of names row) (items_of names rows)

-- before other members the number of rows, where it was asked for
abbrev pub with_count : Option ℕ → json.Members → json.Members
with_count None members = members
with_count (Some n) members = json.member (codes "@odata.count") (json.number (decimal n)) members

-- the body of rows: their array
abbrev pub body_of : List (List ℕ) → List (List CellValue) → Option ℕ → json.Json
body_of names rows count = json.object (with_count count (json.member (codes "value") (json.array (items_of names rows)) json.no_members))

-- rows that CSV can say: at least one name, none that needs double quotes, and a value or more in each row
pub record FitCsv (rows : RowsOf) : Type 0 where
  pub some : 0 < length rows.names
  pub names : AllByRecursion (λ name. IsField (unquoted name)) rows.names
  pub values : AllByRecursion (λ row. 0 < length row) rows.rows

-- the records say what the rows do: the first has the names, those after it the fields of the values, row by row, whose double quotes tell an empty text from null
abbrev pub SaysRows : RowsOf → List (List Field) → Type 0
SaysRows rows records = records ≡ map unquoted rows.names ∷ map (map field_of_value) rows.rows

-- what we publish, our own grammar reads: the body of rows has records, and they say what the rows do
pub record CsvReadsBack : Type 0 where
  pub some : (rows : RowsOf) → FitCsv rows → (records : List (List Field)) × AreRecords (csv_text rows) records
  pub each : (rows : RowsOf) (records : List (List Field)) → FitCsv rows → AreRecords (csv_text rows) records → SaysRows rows records

-- such are the rows of every table of a folder, where it may have a table
abbrev pub TablesFitCsv : Type 0
TablesFitCsv = (folder : FolderOf) (catalog : CatalogOf) → 1 ≤ folder.limits.tables → Means folder catalog
    → All (λ table. FitCsv (rows_of_table table)) catalog.tables

-- What we publish as JSON, a reader of JSON (RFC 8259) gives back: the text of a value, of a row and of the body of rows is that of one value of JSON, which has the
-- names, texts and digits that were written, each once and in order.
pub record JsonReadsBack : Type 0 where
  pub values : (value : CellValue) → FitsJson value → json.document (printed_value true value) ≡ Some (json_of value)
  pub rows : (names : List (List ℕ)) (values : List CellValue) → AllByRecursion FitsJson values → json.document (json_row names values) ≡ Some (object_of names values)
  pub bodies : (rows : RowsOf) → AllByRecursion (AllByRecursion FitsJson) rows.rows → IfSome rows.count (λ n. n < 10 ^ 64) → json.document (rows_text rows) ≡ Some (body_of rows.names rows.rows rows.count)

-- A number of bytes that is counted is the number of bytes that are written, if it is less than the greatest of 64 bits; and each that 64 bits have is
-- counted so.
pub record CountsAreLengths : Type 0 where
  pub counted : (length : ℕ) → told length < 2 ^ 64 - 1 → told length ≡ length
  pub short : (length : ℕ) → length < 2 ^ 64 → told length ≡ length

-- the pieces of a body of rows are the body
abbrev pub PiecesAreBodies : Type 0
PiecesAreBodies = (json : Bool) (rows : RowsOf) → concat (body_pieces json rows) ≡ body_text json rows
