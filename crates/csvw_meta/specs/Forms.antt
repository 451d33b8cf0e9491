-- The forms of a table's url and of a column's name.
use Rattle.std.specs.Prelude.{ℕ, ◌-◌, Bool, ◌&&◌, ◌||◌, ◌==◌, List, length, take, drop, slice_index, codes, nat_eq, nat_lt, nat_le, if◌then◌else◌}
use Rattle.std.specs.List.{list_all, ends_with}
use Rattle.std.specs.Char.{is_ascii_alphabetic, is_ascii_alphanumeric}
use Rattle.csvw_meta.specs.declared.forms.TheConstants.{MOST_NAME_BYTES, MOST_URL_BYTES}

-- an ASCII letter comes first, and the test holds of every byte after it
abbrev pub is_word_of : (ℕ → Bool) → List ℕ → Bool
is_word_of test bytes = nat_lt 0 (length bytes) && is_ascii_alphabetic (slice_index bytes 0) && list_all test (drop 1 bytes)

-- an ASCII letter, digit or low line
abbrev pub is_name_byte : ℕ → Bool
is_name_byte b = is_ascii_alphanumeric b || b == 95

-- an ASCII letter, digit, low line or hyphen
abbrev pub is_url_byte : ℕ → Bool
is_url_byte b = is_name_byte b || b == 45

-- a column's name: a letter, then letters, digits and low lines, not too many in all
abbrev pub is_column_name : List ℕ → Bool
is_column_name bytes = nat_le (length bytes) MOST_NAME_BYTES && is_word_of is_name_byte bytes

-- what every url ends with
abbrev pub url_end : List ℕ
url_end = codes ".csv"

abbrev pub has_url_end : List ℕ → Bool
has_url_end url = ends_with nat_eq url url_end

-- a url without its end
abbrev pub table_name : List ℕ → List ℕ
table_name url = if has_url_end url then take (length url - length url_end) url else url

-- a table's url: a letter, then letters, digits, low lines and hyphens, then `.csv`, not too many in all
abbrev pub is_table_url : List ℕ → Bool
is_table_url url = nat_le (length url) MOST_URL_BYTES && has_url_end url && is_word_of is_url_byte (table_name url)
