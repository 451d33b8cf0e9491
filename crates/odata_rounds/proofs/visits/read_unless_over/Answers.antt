use Rattle.odata_rounds.proofs.VisitLemmas.{idle_over}
use Rattle.odata_rounds.proofs.visits.read_unless_over.Goals as goal

pub returns-then-is_over : goal.returns-then-is_over
returns-then-is_over g c = idle_over _ _ _ (rw c.if-is_over.true at c.is_over.ensures)
