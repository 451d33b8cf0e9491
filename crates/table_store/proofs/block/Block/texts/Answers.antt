use Rattle.std.proofs.Common.{sym, ap, ◌∙◌}
use Rattle.block_summary.specs.declared.block.TheConstants.{BLOCK_ROWS}
use Rattle.table_store.specs.Table.{TableOf}
use Rattle.table_store.specs.Block.{text_cells, part}
use Rattle.table_store.proofs.BlockLemmas.{part-fewer}
use Rattle.table_store.proofs.block.Block.texts.Goals as goal

pub returns : goal.returns
returns c =
    let block = c.self.inside in
    let table = block.table.now in
    c.texts.ensures
    ∙ ap (λ (t : TableOf). text_cells t c.args.col)
    (ap (λ first. part table first BLOCK_ROWS) c.self.invariant.aligned ∙ sym (part-fewer table block.first block.rows BLOCK_ROWS c.self.invariant.whole) ∙ c.self.view_is)
