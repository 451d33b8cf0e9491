use Rattle.cell_types.specs.declared.kind.ColumnKind.TheVariants.{Text}
use Rattle.std.proofs.Common.{◌≡◌}
use Rattle.column_blocks.specs.TypedColumn.{blocks_of}
use Rattle.column_blocks.proofs.block_cells.text_blocks.Given as goal

-- there is a block for each so far
abbrev pub invariant-loop-column : goal.invariant-loop-column
invariant-loop-column l = l.blocks.items ≡ blocks_of Text l.yielded
