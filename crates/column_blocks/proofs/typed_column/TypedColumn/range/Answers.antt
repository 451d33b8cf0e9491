use Rattle.std.proofs.Common.{◌*◌, ◌<◌, length, subst, ap, ◌∙◌, arith}
use Rattle.block_summary.specs.declared.block.TheConstants.{BLOCK_ROWS}
use Rattle.std.specs.Prelude.{IfOk}
use Rattle.block_summary.specs.Ranges.{IsRangeOf}
use Rattle.column_blocks.specs.TypedColumn.{ColumnCells, block_in, cells_in, cells_of_each}
use Rattle.column_blocks.proofs.BlockLemmas.{block_is, block_there}
use Rattle.column_blocks.proofs.typed_column.TypedColumn.range.Goals as goal

pub index-requires : goal.index-requires
index-requires c =
    let blocks = c.self.inside.blocks.items in
    let size = ap (λ (column : ColumnCells). length column.cells) c.self.view_is in
    let within : c.args.number * BLOCK_ROWS < length (cells_in (cells_of_each blocks)) = omega (arith, size, c.requires) in
    let there = block_there BLOCK_ROWS blocks c.args.number c.self.invariant.0 (omega arith) within in
    omega (arith, there, c.self.inside.blocks.ok.0)

pub returns : goal.returns
returns c =
    let blocks = c.self.inside.blocks.items in
    let size = ap (λ (column : ColumnCells). length column.cells) c.self.view_is in
    let within : c.args.number * BLOCK_ROWS < length (cells_in (cells_of_each blocks)) = omega (arith, size, c.requires) in
    let block = block_is BLOCK_ROWS c.self.inside.kind blocks c.args.number c.index.result.now c.self.invariant.0 c.self.invariant.1 (omega arith) within c.index.ensures
    ∙ ap (λ (column : ColumnCells). block_in column c.args.number) c.self.view_is in
    subst (λ (b : ColumnCells). IfOk c.range.result (λ range. IsRangeOf range b.cells)) block c.range.ensures
