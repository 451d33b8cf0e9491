use Rattle.std.proofs.Common.{length, ap, arith}
use Rattle.table_store.specs.Table.{TableOf}
use Rattle.table_store.proofs.BlockLemmas.{length-part}
use Rattle.table_store.proofs.block.Block.rows_are_few.Goals as goal

pub returns : goal.returns
returns c =
    let block = c.self.inside in
    let size = length-part block.table.now block.first block.rows c.self.invariant.within in
    omega (arith, size, c.self.invariant.whole, ap (λ (t : TableOf). length t.rows) c.self.view_is)
