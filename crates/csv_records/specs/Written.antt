-- Cells as a text of RFC 4180 (section 2).
use Rattle.std.specs.Prelude.{◌≡◌, ℕ, ◌<◌, Bool, ◌==◌, ◌||◌, List, [], ◌∷◌, ◌++◌, length, map, if◌then◌else◌}
use Rattle.std.specs.List.{flat_map, list_any, AllByRecursion}
use Rattle.csv_grammar.specs.Bytes.{double_quote, comma, carriage_return, line_feed}
use Rattle.csv_grammar.specs.Records.{Field, unquoted, quoted, doubled, print_record, content, AreRecords}

-- a byte that can only be inside double quotes
abbrev pub is_special : ℕ → Bool
is_special byte = byte == double_quote || byte == comma || byte == carriage_return || byte == line_feed

-- the field of a cell: in double quotes if it has such a byte
abbrev pub field_for : List ℕ → Field
field_for cell = if list_any is_special cell then quoted cell else unquoted cell

-- the bytes of a cell in double quotes
abbrev pub quoted_bytes : List ℕ → List ℕ
quoted_bytes cell = double_quote ∷ doubled cell ++ double_quote ∷ []

-- the bytes of a row: its fields with commas between, and an LF
unfoldable pub row_bytes : List (List ℕ) → List ℕ
row_bytes cells = print_record (map field_for cells) ++ line_feed ∷ []

-- the bytes of rows
abbrev pub rows_bytes : List (List (List ℕ)) → List ℕ
rows_bytes rows = flat_map row_bytes rows

-- a reader of RFC 4180 reads these cells in the bytes, row after row
abbrev pub AreRows : List ℕ → List (List (List ℕ)) → Type 0
AreRows bytes rows = AreRecords bytes (map (map field_for) rows)

-- each row has a cell
abbrev pub HaveCells : List (List (List ℕ)) → Type 0
HaveCells rows = AllByRecursion (λ cells. 0 < length cells) rows

-- the bytes of rows are read as these rows, and what a field says is its cell
pub record RowsReadBack : Type 0 where
  pub rows : (rows : List (List (List ℕ))) → HaveCells rows → AreRows (rows_bytes rows) rows
  pub cell : (cell : List ℕ) → content (field_for cell) ≡ cell
