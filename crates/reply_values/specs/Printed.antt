-- The texts of values in JSON (RFC 8259; OData 4.01 JSON Format) or in CSV (RFC 4180, section 2).
use Rattle.std.specs.Prelude.{ℕ, Bool, false, ◌||◌, ◌==◌, List, [], ◌∷◌, ◌++◌, codes, if◌then◌else◌, length, nat_lt, not}
use Rattle.std.specs.List.{list_any}
use Rattle.std.specs.Fmt.{signed_decimal}
use Rattle.cell_types.specs.Decimal.{decimal_text}
use Rattle.cell_types.specs.Value as cell
use Rattle.cell_types.specs.Value.{CellValue, null, integer, text, boolean, date}
use Rattle.csv_grammar.specs.Bytes.{double_quote}
use Rattle.csv_grammar.specs.Records.{Field, quoted, unquoted, is_plain, print_field}
use Rattle.json.specs.Print as tokens
use Rattle.json.specs.Print.{escape_byte}
use Rattle.reply_values.specs.Value.{bool_text, day_text}

-- whether a byte of a text does not stand for itself: in JSON it is escaped (RFC 8259, section 7), in CSV it stands in double quotes alone
abbrev pub needs_more : Bool → ℕ → Bool
needs_more json b = if json then (b == 34) || (b == 92) || nat_lt b 32 else not (is_plain b)

-- whether each byte of a text stands for itself
abbrev pub is_plain_text : Bool → List ℕ → Bool
is_plain_text json bytes = not (list_any (needs_more json) bytes)

-- what stands for a byte between double quotes: in CSV a double quote is written as two
abbrev pub printed_byte : Bool → ℕ → List ℕ
printed_byte json b = if json then escape_byte b else (if b == double_quote then double_quote ∷ double_quote ∷ [] else b ∷ [])

-- whether a text is in double quotes in CSV: it is empty, or has a byte that stands in these alone
abbrev pub needs_quotes : List ℕ → Bool
needs_quotes bytes = (length bytes == 0) || list_any (needs_more false) bytes

abbrev pub text_field : List ℕ → Field
text_field bytes = if needs_quotes bytes then quoted bytes else unquoted bytes

-- a text in JSON, with no space between tokens (OData JSON Format 4.01, sections 4.5 and 21)
abbrev pub json_text : List ℕ → List ℕ
json_text bytes = tokens.quoted bytes

-- a member whose value is a text
abbrev pub json_text_member : List ℕ → List ℕ → List ℕ
json_text_member name bytes = json_text name ++ codes ":" ++ json_text bytes

abbrev pub printed_text : Bool → List ℕ → List ℕ
printed_text json bytes = if json then json_text bytes else print_field (text_field bytes)

-- a date, in quotes if it is in JSON
abbrev pub printed_date : Bool → List ℕ → List ℕ
printed_date json day = if json then double_quote ∷ day ++ double_quote ∷ [] else day

-- a value: in CSV null is nothing, and an empty text is not
abbrev pub printed_value : Bool → CellValue → List ℕ
printed_value json null = if json then codes "null" else []
printed_value json (integer number) = signed_decimal number
printed_value json (text bytes) = printed_text json bytes
printed_value json (boolean truth) = bool_text truth
printed_value json (date year month day) = printed_date json (day_text year month day)
printed_value json (cell.decimal millionths) = decimal_text millionths
