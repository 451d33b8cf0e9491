-- Keys of rows (Model for Tabular Data and Metadata on the Web, sections 4.4 and 6.6; Metadata Vocabulary for Tabular Data, section 5.5,
-- `primaryKey`).
use Rattle.std.specs.Prelude.{ℕ, Bool, List, [], get_or, length, map, take, Option, position, find}
use Rattle.std.specs.List.{list_any, range_with_len}
use Rattle.cell_types.specs.Rows.{values_at, same_values}
use Rattle.cell_types.specs.Value.{CellValue, null, value_eq}

-- the key of a row: its values in the columns of the key, in the order of the key
abbrev pub row_key : List ℕ → List CellValue → List CellValue
row_key places values = values_at places values

-- the keys of the rows of a table, in order; none, where the table has no key
abbrev pub key_index : List ℕ → List (List CellValue) → List (List CellValue)
key_index [] rows = []
key_index places rows = map (row_key places) rows

-- two keys are one where they have the same values
abbrev pub key_eq : List CellValue → List CellValue → Bool
key_eq a b = same_values a b

-- whether a part of a key is null
abbrev pub has_null : List CellValue → Bool
has_null key = list_any (value_eq null) key

-- the first row whose key has a null
abbrev pub null_row : List (List CellValue) → Option ℕ
null_row keys = position has_null keys

-- whether the key of a row is that of an earlier row
abbrev pub is_repeated : List (List CellValue) → ℕ → Bool
is_repeated keys row = list_any (key_eq (get_or keys row [])) (take row keys)

-- the first row whose key is that of an earlier row
abbrev pub repeated_row : List (List CellValue) → Option ℕ
repeated_row keys = find (is_repeated keys) (range_with_len 0 (length keys))

-- the row that has a key
abbrev pub row_of : List (List CellValue) → List CellValue → Option ℕ
row_of keys key = position (key_eq key) keys
