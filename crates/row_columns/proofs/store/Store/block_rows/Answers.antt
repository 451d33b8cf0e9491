use Rattle.std.proofs.Common.{arith}
use Rattle.row_columns.proofs.BlockLemmas.{rows_of_block}
use Rattle.row_columns.proofs.store.Store.block_rows.Goals as goal

pub returns : goal.returns
returns c =
    let pieces = c.in-Blocks.pieces.items in
    rw (c.of.ensures, c.in-Blocks.is)
    (rows_of_block pieces c.index.result.now c.args.number c.args.count (omega (arith, rw c.in-Blocks.is at c.requires.number)) c.index.ensures (omega arith))
