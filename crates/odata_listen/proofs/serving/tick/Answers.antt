use Rattle.std.proofs.Common.{refl}
use Rattle.odata_listen.proofs.RoundLemmas.{on_round}
use Rattle.odata_listen.proofs.ServingLemmas.{on_join, on_kept}
use Rattle.odata_listen.proofs.serving.tick.Goals as goal

pub returns : goal.returns
returns c =
    on_join _ _ _ (on_join _ _ _ (on_join _ _ _ (on_join _ _ _ (on_join _ _ _ (on_kept _ _ (record { hub = refl; slots = refl; stay = c.wait.ensures.stay }))
    (on_round _ _ _ _ _ c.run_round-busy.ensures.round)) c.load_on.ensures) c.tend.ensures) c.accept-took.ensures) c.look.ensures

pub returns-in_err-wait : goal.returns-in_err-wait
returns-in_err-wait c = on_kept _ _ (record { hub = refl; slots = refl; stay = c.wait.ensures.stay })
