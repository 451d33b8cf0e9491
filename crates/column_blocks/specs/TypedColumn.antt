-- The cells of a column, block by block.
pub use Rattle.column_blocks.specs.ColumnCells.{ColumnCells}
use Rattle.std.specs.Prelude.{◌≡◌, ◌<◌, ◌≤◌, ◌*◌, ℕ, List, [], ◌∷◌, drop, length, map, take, Option, None, Some, slice_get}
use Rattle.std.specs.List.{flat_map, AllByRecursion}
use Rattle.block_summary.specs.Ranges.{column_of}
use Rattle.cell_types.specs.declared.kind.ColumnKind.TheVariants.{Text, Number}
use Rattle.cell_types.specs.Kind.{kind_of}
use Rattle.block_summary.specs.declared.block.TheConstants.{BLOCK_ROWS}
use Rattle.cell_types.specs.declared.kind.ColumnKind.{ColumnKind}
use Rattle.cell_types.specs.Column.{ColumnOf}
use Rattle.cell_types.specs.Value.{CellValue}

-- the cells of blocks, in order
abbrev pub cells_in : List (List CellValue) → List CellValue
cells_in blocks = flat_map (λ cells. cells) blocks

-- each block has `size` cells
abbrev pub AreFull : ℕ → List (List CellValue) → Type 0
AreFull size blocks = AllByRecursion (λ cells. length cells ≡ size) blocks

-- so has each but the last, which has some, and no more
abbrev pub AreBlocks : ℕ → List (List CellValue) → Type 0
AreBlocks size [] = Unit {0}
AreBlocks size (last ∷ []) = (0 < length last) × (length last ≤ size)
AreBlocks size (block ∷ next ∷ blocks) = (length block ≡ size) × AreBlocks size (next ∷ blocks)

-- the cells of each block
abbrev pub cells_of_each : List ColumnCells → List (List CellValue)
cells_of_each blocks = map (λ (block : ColumnCells). block.cells) blocks

-- each block is of the kind
abbrev pub HaveKind : ColumnKind → List ColumnCells → Type 0
HaveKind kind blocks = AllByRecursion (λ (block : ColumnCells). block.kind ≡ kind) blocks

-- blocks of that kind with these cells
abbrev pub blocks_of : ColumnKind → List (List CellValue) → List ColumnCells
blocks_of kind blocks = map (λ (cells : List CellValue). record { kind = kind; cells = cells }) blocks

-- the block of that number of a column
abbrev pub block_in : ColumnCells → ℕ → ColumnCells
block_in column number = record { kind = column.kind; cells = take BLOCK_ROWS (drop (number * BLOCK_ROWS) column.cells) }

-- cells, where they are texts, and where numbers stand for them
abbrev pub cells_of_texts : ColumnKind → List CellValue → Option (List CellValue)
cells_of_texts Text cells = Some cells
cells_of_texts (Number kind) cells = None

abbrev pub cells_of_numbers : ColumnKind → List CellValue → Option (List CellValue)
cells_of_numbers Text cells = None
cells_of_numbers (Number kind) cells = Some cells

-- the cells of a column of a datatype
abbrev pub typed_cells : ColumnOf → List CellValue → ColumnCells
typed_cells column cells = record { kind = kind_of column.datatype; cells = cells }

-- these are the cells of each column of rows
pub record AreTyped (columns : List ColumnOf) (rows : List (List CellValue)) (typed : List ColumnCells) : Type 0 where
  pub count : length typed ≡ length columns
  pub each : (col : ℕ) (column : ColumnOf) → slice_get columns col ≡ Some column → slice_get typed col ≡ Some (typed_cells column (column_of rows col))
