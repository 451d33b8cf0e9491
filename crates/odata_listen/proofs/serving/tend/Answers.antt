use Rattle.std.proofs.Common.{refl}
use Rattle.odata_listen.proofs.ServingLemmas.{on_join, on_reload}
use Rattle.odata_listen.proofs.serving.tend.Goals as goal

pub returns : goal.returns
returns c =
    on_join _ _ _ (on_join _ _ _ c.end_all_slow.ensures c.tend_lingering.ensures) (on_reload _ _ c.look.ensures refl c.try_writes.ensures.stay)
