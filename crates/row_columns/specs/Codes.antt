-- Codes of the values that rows have in a column.
use Rattle.std.specs.Prelude.{◌≡◌, ◌<◌, ℕ, List, length, slice_index_or}
use Rattle.std.specs.List.{AllZip}
use Rattle.cell_types.specs.Value.{CellValue, null}

-- each row has a code, and a code stands for one value: that which the row has in the column
abbrev pub HaveCodes : List ℕ → ℕ → List (List CellValue) → Type 0
HaveCodes codes col rows = (value_of : ℕ → CellValue) × AllZip (λ row code. slice_index_or row col null ≡ value_of code) rows codes

-- so have the first rows, each by its number
abbrev pub HaveCodesAt : List ℕ → ℕ → (ℕ → List CellValue) → Type 0
HaveCodesAt codes col row_at = (value_of : ℕ → CellValue) × ((row : ℕ) → row < length codes → slice_index_or (row_at row) col null ≡ value_of (slice_index_or codes row 0))
