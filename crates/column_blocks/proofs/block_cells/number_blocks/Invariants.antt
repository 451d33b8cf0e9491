use Rattle.cell_types.specs.declared.kind.ColumnKind.TheVariants.{Number}
use Rattle.std.proofs.Common.{◌≡◌}
use Rattle.column_blocks.specs.TypedColumn.{blocks_of}
use Rattle.column_blocks.proofs.block_cells.number_blocks.Given as goal

-- there is a block for each so far
abbrev pub invariant-loop-column : goal.invariant-loop-column
invariant-loop-column l = l.blocks.items ≡ blocks_of (Number l.kind) l.yielded
