use Rattle.odata_listen.proofs.ServingLemmas.{on_join}
use Rattle.odata_listen.proofs.serving.serve.Goals as goal

pub loop-tick-preserved : goal.loop-tick-preserved
loop-tick-preserved c = on_join _ _ _ c.loop-tick.invariant c.tick.ensures

pub returns-in_err-tick : goal.returns-in_err-tick
returns-in_err-tick c = on_join _ _ _ c.loop-tick.invariant c.tick.ensures

pub returns-then-is_over : goal.returns-then-is_over
returns-then-is_over c = on_join _ _ _ c.loop-tick.invariant c.tick.ensures
