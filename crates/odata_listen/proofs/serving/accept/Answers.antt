use Rattle.odata_listen.proofs.ServingLemmas.{on_join}
use Rattle.odata_listen.proofs.serving.accept.Goals as goal

pub loop-turn-preserved : goal.loop-turn-preserved
loop-turn-preserved c = on_join _ _ _ c.loop-turn.invariant c.take_in.ensures

pub returns-in-Nothing : goal.returns-in-Nothing
returns-in-Nothing c = on_join _ _ _ c.loop-turn.invariant c.take_in.ensures

pub returns-in-Later : goal.returns-in-Later
returns-in-Later c = on_join _ _ _ c.loop-turn.invariant c.take_in.ensures
