-- The cells of a column in one block.
use Rattle.cell_types.specs.declared.kind.ColumnKind.TheVariants.{Text, Number}
use Rattle.column_blocks.specs.ColumnCells.{ColumnCells}
use Rattle.column_blocks.specs.declared.block_cells.Kept.{Kept}
use Rattle.column_blocks.specs.declared.block_cells.Kept.TheVariants.{Numbers, Texts}

abbrev pub kept_cells : Kept → ColumnCells
kept_cells (Numbers kind numbers) = record { kind = Number kind; cells = numbers.value }
kept_cells (Texts texts) = record { kind = Text; cells = texts.value }
