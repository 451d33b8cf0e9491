-- Primary keys (Metadata Vocabulary for Tabular Data, section 5.5).
use Rattle.std.specs.Prelude.{ℕ, Bool, true, not, ◌&&◌, List, [], ◌∷◌, map, length, nat_lt, Option, None, Some, unwrap_or}
use Rattle.std.specs.List.{list_any, list_all, position_or_len}
use Rattle.std.specs.Str.{bytes_eq}
use Rattle.serde_json.specs.Data.{Data}
use Rattle.serde_json.specs.Find.{as_str}
use Rattle.csvw_meta.specs.Texts.{values_or_one, is_texts}
use Rattle.csvw_meta.specs.Column.{name_of, names_a_column}

-- the text of a value, empty where it is no text
abbrev pub text_or_empty : Data → List ℕ
text_or_empty d = unwrap_or (as_str d) []

-- the names that a key is
abbrev pub key_names : Data → List (List ℕ)
key_names d = map text_or_empty (values_or_one d)

-- no text stands twice
abbrev pub are_different : List (List ℕ) → Bool
are_different [] = true
are_different (text ∷ texts) = not (list_any (bytes_eq text) texts) && are_different texts

-- at least one text, each the name of one of the columns, none twice
unfoldable pub are_key_names : List Data → List (List ℕ) → Bool
are_key_names columns names = nat_lt 0 (length names) && list_all (names_a_column columns) names && are_different names

-- a text or an array of texts, which are such names
abbrev pub is_key : List Data → Data → Bool
is_key columns d = is_texts d && are_key_names columns (key_names d)

-- the place of the column with that name
abbrev pub column_place : List Data → List ℕ → ℕ
column_place columns name = position_or_len (bytes_eq name) (map name_of columns)

-- the places of the columns that a key names
abbrev pub key_in : List Data → Data → List ℕ
key_in columns d = map (column_place columns) (key_names d)

-- the same, none where there is no key
abbrev pub key_of : List Data → Option Data → List ℕ
key_of columns None = []
key_of columns (Some d) = key_in columns d
