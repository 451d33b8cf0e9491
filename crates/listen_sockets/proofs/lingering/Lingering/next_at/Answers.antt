use Rattle.std.proofs.Common.{arith}
use Rattle.listen_sockets.proofs.LingeringLemmas.{next-place}
use Rattle.listen_sockets.proofs.lingering.Lingering.next_at.Goals as goal

pub returns : goal.returns
returns c = λ some.
    let held = c.args.self.now.held in
    next-place held.items c.loop-next.at c.args.self.now.in_time (c.loop-next.invariant.within some) (λ k less.
    c.loop-next.invariant.first k (omega (arith, less, held.ok.0, c.len-next-end.ensures, c.loop-next-test.false)))
