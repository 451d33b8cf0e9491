-- Cells that are read one after another, until they fill a block.
use Rattle.std.specs.Prelude.{ℕ, List, [], ◌∷◌, ◌++◌}
use Rattle.cell_types.specs.Value.{CellValue}
use Rattle.cell_types.specs.declared.kind.NumberKind.{NumberKind}

-- the cells so far, and how many there is room for
pub record BufferOf : Type 0 where
  pub kind : NumberKind
  pub room : ℕ
  pub cells : List CellValue

-- one more cell
abbrev pub buffer_with_cell : BufferOf → CellValue → BufferOf
buffer_with_cell buffer cell = record buffer { cells = buffer.cells ++ cell ∷ [] }
