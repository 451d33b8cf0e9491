use Rattle.std.proofs.Common.{◌++◌}
use Rattle.csvw_draft.proofs.guess.look_at.Goals as goal

pub loop-piece-init : goal.loop-piece-init
loop-piece-init g c = c.requires

pub loop-piece-preserved : goal.loop-piece-preserved
loop-piece-preserved g c =
    let inv = c.loop-piece.invariant in
    (inv.0 ++ c.as_slice.result.now, (rw c.in-Ok.is at c.in_ok-on.ensures) inv.0 inv.1)
