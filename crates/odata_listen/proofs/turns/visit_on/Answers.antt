use Rattle.std.proofs.Common.{◌+◌, arith, refl}
use Rattle.odata_listen.proofs.TurnLemmas.{visits_more}
use Rattle.odata_listen.proofs.turns.visit_on.Goals as goal

pub loop-visit-init : goal.loop-visit-init
loop-visit-init c = refl

pub loop-visit-preserved : goal.loop-visit-preserved
loop-visit-preserved c = visits_more _ _ _ _ _ _ c.loop-visit.invariant c.visit.ensures

pub returns-then-not-visit : goal.returns-then-not-visit
returns-then-not-visit c = record {
  visits = c.loop-visit._visit + 1;
  some = omega arith;
  few = omega arith;
  are = visits_more _ _ _ _ _ _ c.loop-visit.invariant c.visit.ensures;
}

pub returns-then-is_over : goal.returns-then-is_over
returns-then-is_over c = record {
  visits = c.loop-visit._visit + 1;
  some = omega arith;
  few = omega arith;
  are = visits_more _ _ _ _ _ _ c.loop-visit.invariant c.visit.ensures;
}

pub returns : goal.returns
returns c = record { visits = c.loop-visit._visit; some = omega arith; few = omega arith; are = c.loop-visit.invariant }
