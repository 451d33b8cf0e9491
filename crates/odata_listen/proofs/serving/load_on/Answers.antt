use Rattle.std.proofs.Common.{refl}
use Rattle.odata_listen.proofs.ServingLemmas.{on_reload}
use Rattle.odata_listen.proofs.serving.load_on.Goals as goal

pub returns : goal.returns
returns c = on_reload _ _ c.work.ensures refl (λ place. refl)
