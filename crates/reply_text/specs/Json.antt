-- The rows of answers in JSON (RFC 8259), with no space between tokens (OData JSON Format 4.01, sections 4.5 and 21).
use Rattle.std.specs.Prelude.{ℕ, ◌==◌, List, [], ◌++◌, map, true, if◌then◌else◌, codes, Option, None, Some}
use Rattle.std.specs.List.{zip, join_with_byte}
use Rattle.std.specs.Fmt.{decimal}
use Rattle.cell_types.specs.Value.{CellValue}
use Rattle.reply_values.specs.Printed.{json_text, printed_value}

-- a member: its name, a colon and its value
abbrev pub json_member : List ℕ × CellValue → List ℕ
json_member member = json_text member.0 ++ codes ":" ++ printed_value true member.1

-- a row: an object of its members, in order
abbrev pub json_row : List (List ℕ) → List CellValue → List ℕ
json_row names values = codes "{" ++ join_with_byte 44 (map json_member (zip names values)) ++ codes "}"

-- the number of rows, where it was asked for
abbrev pub json_count : Option ℕ → List ℕ
json_count None = []
json_count (Some n) = json_text (codes "@odata.count") ++ codes ":" ++ decimal n ++ codes ","

-- what comes before an item of a list, by its place
abbrev pub comma_before : ℕ → List ℕ
comma_before place = if place == 0 then [] else codes ","
