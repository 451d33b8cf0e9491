use Rattle.std.proofs.Common.{refl}
use Rattle.odata_listen.proofs.ServingLemmas.{on_join, on_kept}
use Rattle.odata_listen.proofs.drain.end_streams.Goals as goal

pub loop-place-preserved : goal.loop-place-preserved
loop-place-preserved c = on_join _ _ _ c.loop-place.invariant
    (on_kept _ _ (record { hub = refl; slots = refl; stay = c.end_stream.ensures.stay }))
