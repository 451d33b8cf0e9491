use Rattle.std.proofs.Common.{arith}
use Rattle.reply_text.specs.contracts.push_rows.push_rows.{JSON-type}
use denote.Param.{number}
use Rattle.reply_text.proofs.PieceLemmas.{rows_more}
use Rattle.reply_text.proofs.push_rows.push_rows.Goals as goal

pub loop-row-preserved : goal.loop-row-preserved
loop-row-preserved g c =
    let rows = c.args.rows.now in
    rows_more (JSON-type (number g.row.JSON)) rows.names rows.rows _ _ _ c.loop-row.row c.loop-row.invariant (omega (arith, c.loop-row-test.true, c.len-row-end.ensures)) c.in_ok-push_row.ensures
