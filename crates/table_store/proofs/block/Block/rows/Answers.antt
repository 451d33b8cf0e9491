use Rattle.std.proofs.Common.{length, sym, ap, ◌∙◌}
use Rattle.table_store.specs.Table.{TableOf}
use Rattle.table_store.proofs.BlockLemmas.{length-part}
use Rattle.table_store.proofs.block.Block.rows.Goals as goal

pub returns : goal.returns
returns c =
    let block = c.self.inside in
    sym (length-part block.table.now block.first block.rows c.self.invariant.within) ∙ ap (λ (t : TableOf). length t.rows) c.self.view_is
