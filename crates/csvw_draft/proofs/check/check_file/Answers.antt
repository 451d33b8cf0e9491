use Rattle.std.proofs.Common.{◌++◌}
use Rattle.csvw_draft.proofs.check.check_file.Goals as goal

pub loop-piece-preserved : goal.loop-piece-preserved
loop-piece-preserved g c =
    let inv = c.loop-piece.invariant in
    (inv.0 ++ c.as_slice.result.now, c.in-Ok.ensures.checks inv.0 inv.1)
