use Rattle.std.proofs.Common.{◌<◌, ◌≤◌, ◌/◌, length, get_or, ap, ◌∙◌, arith}
use Rattle.block_summary.specs.declared.block.TheConstants.{BLOCK_ROWS}
use Rattle.cell_types.specs.Value.{null}
use Rattle.column_blocks.specs.TypedColumn.{ColumnCells}
use Rattle.column_blocks.proofs.BlockLemmas.{value_in, value_past}
use Rattle.column_blocks.proofs.typed_column.TypedColumn.value.Goals as goal

pub returns-then-number-len : goal.returns-then-number-len
returns-then-number-len c =
    let blocks = c.self.inside.blocks.items in
    let past : length blocks ≤ c.args.row / BLOCK_ROWS = omega (arith, c.if-number-len.true, c.len.ensures) in
    value_past BLOCK_ROWS blocks c.args.row c.self.invariant.0 (omega arith) past
    ∙ ap (λ (column : ColumnCells). get_or column.cells c.args.row null) c.self.view_is

pub returns : goal.returns
returns c =
    let blocks = c.self.inside.blocks.items in
    let there : c.args.row / BLOCK_ROWS < length blocks = omega (arith, c.if-number-len.false, c.len.ensures) in
    c.value.ensures ∙ value_in BLOCK_ROWS blocks c.args.row c.index.result.now c.self.invariant.0 (omega arith) there c.index.ensures
    ∙ ap (λ (column : ColumnCells). get_or column.cells c.args.row null) c.self.view_is
