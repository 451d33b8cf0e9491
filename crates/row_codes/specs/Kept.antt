-- A column as it is kept.
use Rattle.std.specs.Prelude.{ℕ, ◌≡◌, List}
use Rattle.block_summary.specs.Ranges.{column_of}
use Rattle.block_summary.specs.Types.{cells_of_kind, numbers_of}
use Rattle.cell_types.specs.declared.kind.NumberKind.{NumberKind}
use Rattle.cell_types.specs.Value.{CellValue}

-- the cells are those that rows have in a column, and all are null or numbers of that kind
pub record IsKeptAs (kind : NumberKind) (place : ℕ) (rows : List (List CellValue)) (cells : List CellValue) : Type 0 where
  pub column : cells ≡ column_of rows place
  pub typed : cells_of_kind kind (numbers_of cells) ≡ cells
