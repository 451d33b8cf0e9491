-- The rows of a block, from its columns.
pub use Rattle.number_kernels.specs.Lanes.{number_at, unless_null}
use Rattle.std.specs.Prelude.{◌≡◌, ℕ, Some, List, slice_get, slice_index_or}
use Rattle.cell_types.specs.Value.{CellValue, null}
use Rattle.block_eval.specs.declared.columns.BlockColumn.{BlockColumn}
use Rattle.block_eval.specs.declared.columns.BlockColumn.TheVariants.{Packed, Texts}

-- the cell of a row
abbrev pub cell_in_column : BlockColumn → ℕ → CellValue
cell_in_column (Packed column) row = slice_index_or column.now row null
cell_in_column (Texts texts) row = slice_index_or texts.now row null

-- cells that are those of a row, in each column
pub record IsRowAt (columns : List BlockColumn) (row : ℕ) (cells : List CellValue) : Type 0 where
  pub each : (place : ℕ) (column : BlockColumn) → slice_get columns place ≡ Some column → slice_get cells place ≡ Some (cell_in_column column row)
