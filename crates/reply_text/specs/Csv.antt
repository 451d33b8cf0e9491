-- Rows as CSV (RFC 4180, section 2).
use Rattle.std.specs.Prelude.{ℕ, List, ◌∷◌, [], ◌++◌, false, map}
use Rattle.std.specs.List.{flat_map, join_with_byte}
use Rattle.csv_grammar.specs.Bytes.{comma, carriage_return, line_feed}
use Rattle.cell_types.specs.Value.{CellValue}
use Rattle.result_rows.specs.Rows.{RowsOf}
use Rattle.reply_values.specs.Printed.{printed_value}

-- a line of fields
abbrev pub csv_line : List (List ℕ) → List ℕ
csv_line fields = join_with_byte comma fields ++ carriage_return ∷ line_feed ∷ []

-- the line of a row
abbrev pub row_line : List CellValue → List ℕ
row_line values = csv_line (map (printed_value false) values)

-- the names, and then the rows, a line each
abbrev pub csv_text : RowsOf → List ℕ
csv_text rows = csv_line rows.names ++ flat_map row_line rows.rows
