-- The columns of a block, for conditions.
use Rattle.std.specs.Prelude.{◌≡◌, ◌<◌, ℕ, List, [], MatchOption, None, Option, Some, length, slice_get, slice_index_or}
use Rattle.block_eval.specs.declared.columns.BlockColumn.{BlockColumn}
use Rattle.block_eval.specs.Columns.{cell_in_column, IsRowAt}
use Rattle.cell_types.specs.Value.{CellValue, null}

-- a column has the cells of rows at a place
abbrev pub IsColumnOf : List (List CellValue) → ℕ → BlockColumn → Type 0
IsColumnOf rows place column = (row : ℕ) → row < length rows → slice_get (slice_index_or rows row []) place ≡ Some (cell_in_column column row)

-- columns have the cells of rows
abbrev pub AreColumnsOf : List (List CellValue) → List BlockColumn → Type 0
AreColumnsOf rows columns = (row : ℕ) → row < length rows → IsRowAt columns row (slice_index_or rows row [])

-- the values of a column, if there are such
abbrev pub AreValuesOf : List (List CellValue) → ℕ → Option (List CellValue) → Type 0
AreValuesOf rows place values = MatchOption values (Unit {0}) (λ vs. (row : ℕ) → row < length rows → slice_get (slice_index_or rows row []) place ≡ Some (slice_index_or vs row null))

-- and of each column
abbrev pub AreTextsOf : List (List CellValue) → List (Option (List CellValue)) → Type 0
AreTextsOf rows texts = (place : ℕ) → AreValuesOf rows place (slice_index_or texts place None)
