-- What the texts of values say to who reads them as JSON (RFC 8259), or as CSV (RFC 4180).
use Rattle.std.specs.Prelude.{◌≡◌, ◌^◌, ◌<◌, ◌≤◌, List, [], ◌++◌, true, false, unsigned_abs}
use Rattle.std.specs.Fmt.{signed_decimal}
use Rattle.json.specs.Json as json
use Rattle.json.specs.Print.{print_from}
use Rattle.json.specs.Token.{Token}
use Rattle.json.specs.Tree.{depth, json_tokens, HasNumbers}
use Rattle.csv_grammar.specs.Records.{Field, unquoted, print_field, IsField}
use Rattle.cell_types.specs.Decimal.{decimal_text}
use Rattle.cell_types.specs.Value as cell
use Rattle.cell_types.specs.Value.{CellValue, null, integer, text, boolean, date}
use Rattle.reply_values.specs.Printed.{printed_value, text_field}
use Rattle.reply_values.specs.Value.{bool_text, day_text}

-- what a value is written as: a number has its digits, and a date is a text
abbrev pub json_of : CellValue → json.Json
json_of null = json.null
json_of (integer number) = json.number (signed_decimal number)
json_of (text bytes) = json.string bytes
json_of (boolean truth) = json.boolean truth
json_of (date year month day) = json.string (day_text year month day)
json_of (cell.decimal millionths) = json.number (decimal_text millionths)

-- numbers of no more than 64 digits, as all of 128 bits are, and days whose numbers have their places
abbrev pub FitsJson : CellValue → Type 0
FitsJson (integer number) = unsigned_abs number < 10 ^ 64
FitsJson (date year month day) = (unsigned_abs year < 10_000) × (month < 100) × (day < 100)
FitsJson (cell.decimal millionths) = unsigned_abs millionths < 10 ^ 64
FitsJson value = Unit {0}

-- the field of a value: its text, which is in double quotes if it is that of a text that is empty or has a double quote, a comma, a CR or an LF; null has the empty one
abbrev pub field_of_value : CellValue → Field
field_of_value null = unquoted []
field_of_value (integer number) = unquoted (signed_decimal number)
field_of_value (text bytes) = text_field bytes
field_of_value (boolean truth) = unquoted (bool_text truth)
field_of_value (date year month day) = unquoted (day_text year month day)
field_of_value (cell.decimal millionths) = unquoted (decimal_text millionths)

-- the tokens of the tree of a value are printed as its text; the tree has numbers of JSON, and is flat
pub record IsJsonText (value : CellValue) : Type 0 where
  pub printed : (ts : List Token) → print_from false (json_tokens (json_of value) ++ ts) ≡ printed_value true value ++ print_from true ts
  pub numbers : HasNumbers (json_of value)
  pub flat : depth (json_of value) ≤ 0

-- the field of a value is one of the grammar, and what is written of the value
pub record IsFieldOf (value : CellValue) : Type 0 where
  pub valid : IsField (field_of_value value)
  pub printed : print_field (field_of_value value) ≡ printed_value false value

pub record ValuesReadBack : Type 0 where
  pub json : (value : CellValue) → FitsJson value → IsJsonText value
  pub csv : (value : CellValue) → IsFieldOf value
