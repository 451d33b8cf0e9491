use Rattle.std.proofs.Common.{ap}
use Rattle.listen_sockets.specs.declared.sockets.Sockets.{Sockets}
use Rattle.odata_listen.proofs.ServingLemmas.{on_join, on_stays}
use Rattle.odata_listen.proofs.serving.tend_lingering.Goals as goal

pub loop-at-preserved : goal.loop-at-preserved
loop-at-preserved c =
    let tended = c.tend_lingering_at.ensures in
    on_join _ _ _ c.loop-at.invariant
    (on_stays _ _ (record { hub = tended.hub; slots = tended.slots; sockets = ap (λ (s : Sockets). s.wires.items) tended.sockets }))
