use Rattle.odata_listen.specs.Turns.{AreVisits, served}
use Rattle.odata_listen.proofs.turns.visit_on.Given as goal

-- the visits so far
abbrev pub invariant-loop-visit : goal.invariant-loop-visit
invariant-loop-visit l = AreVisits l._visit l.terms l.place (served l.fn.server l.fn.log) (served l.server l.log)
