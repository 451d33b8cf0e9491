-- The cells of a part of a block's column.
use Rattle.std.specs.Prelude.{◌≡◌, ℕ, ◌+◌, ◌-◌, ◌<◌, ◌≤◌, List, [], length, slice_index_or}
use Rattle.block_summary.specs.declared.block.TheConstants.{BLOCK_ROWS}
use Rattle.cell_types.specs.Value.{CellValue, null}
use Rattle.row_columns.specs.Columns.{ColumnsOf}
use Rattle.row_columns.specs.declared.block_rows.PartCells.{PartCells}
use Rattle.row_columns.specs.declared.block_rows.PartCells.TheVariants.{Numbers, Texts}
use Rattle.value_rows.specs.ValueRows.{ValueRowsOf}

-- they are the cells of a block from one on
pub record IsPartFrom (part : List CellValue) (first : ℕ) (cells : List CellValue) : Type 0 where
  pub within : first + length part ≤ BLOCK_ROWS
  pub at : (row : ℕ) → row < length part → slice_index_or part row null ≡ slice_index_or cells (first + row) null

-- rows from one on are rows of values from one on, with a value for each column
pub record AreRowsFrom (row : ℕ) (columns : ColumnsOf) (values : ValueRowsOf) (first : ℕ) : Type 0 where
  pub wide : values.width ≡ length columns.kinds
  pub long : first + (length columns.rows - row) ≤ length values.rows
  pub same : (i : ℕ) → row + i < length columns.rows → slice_index_or values.rows (first + i) [] ≡ slice_index_or columns.rows (row + i) []

abbrev pub ArePartOf : List CellValue → PartCells → Type 0
ArePartOf part (Numbers numbers first) = IsPartFrom part first numbers.now
ArePartOf part (Texts texts first) = IsPartFrom part first texts
