-- What holds of all keys.
use Rattle.std.specs.Prelude.{◌≡◌, ◌≢◌, ◌↔◌, ℕ, List, None, Some, slice_get, All}
use Rattle.cell_types.specs.Value.{CellValue, null}
use Rattle.key_index.specs.Key.{null_row, repeated_row, row_of}

-- no part of a key is null, no two rows have one key, and the row that has a key is the one whose key it is
pub record AreKeys (keys : List (List CellValue)) : Type 0 where
  pub whole : All (All (λ value. value ≢ null)) keys
  pub distinct : (a b : ℕ) (key : List CellValue) → slice_get keys a ≡ Some key → slice_get keys b ≡ Some key → a ≡ b
  pub found : (row : ℕ) (key : List CellValue) → (row_of keys key ≡ Some row) ↔ (slice_get keys row ≡ Some key)

-- so are those of which none has a null and none is that of an earlier row
abbrev pub KeysFindRows : Type 0
KeysFindRows = (keys : List (List CellValue)) → null_row keys ≡ None → repeated_row keys ≡ None → AreKeys keys
