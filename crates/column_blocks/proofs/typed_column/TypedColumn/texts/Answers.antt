use Rattle.std.proofs.Common.{◌*◌, ◌<◌, length, ap, ◌∙◌, arith}
use Rattle.block_summary.specs.declared.block.TheConstants.{BLOCK_ROWS}
use Rattle.column_blocks.specs.TypedColumn.{ColumnCells, block_in, cells_in, cells_of_each, cells_of_texts}
use Rattle.column_blocks.proofs.BlockLemmas.{block_is, block_there}
use Rattle.column_blocks.proofs.typed_column.TypedColumn.texts.Goals as goal

pub index-requires : goal.index-requires
index-requires c =
    let blocks = c.self.inside.blocks.items in
    let size = ap (λ (column : ColumnCells). length column.cells) c.self.view_is in
    let within : c.args.number * BLOCK_ROWS < length (cells_in (cells_of_each blocks)) = omega (arith, size, c.requires) in
    let there = block_there BLOCK_ROWS blocks c.args.number c.self.invariant.0 (omega arith) within in
    omega (arith, there, c.self.inside.blocks.ok.0)

pub returns : goal.returns
returns c =
    let blocks = c.self.inside.blocks.items in
    let size = ap (λ (column : ColumnCells). length column.cells) c.self.view_is in
    let within : c.args.number * BLOCK_ROWS < length (cells_in (cells_of_each blocks)) = omega (arith, size, c.requires) in
    let block = block_is BLOCK_ROWS c.self.inside.kind blocks c.args.number c.index.result.now c.self.invariant.0 c.self.invariant.1 (omega arith) within c.index.ensures
    ∙ ap (λ (column : ColumnCells). block_in column c.args.number) c.self.view_is in
    c.texts.ensures ∙ ap (λ (b : ColumnCells). cells_of_texts b.kind b.cells) block
