use Rattle.odata_rounds.proofs.VisitLemmas.{turn_idle, turn_refused, turn_worked}
use Rattle.odata_rounds.proofs.visits.turn_or_read.Goals as goal

pub returns-in-Ok-Worked : goal.returns-in-Ok-Worked
returns-in-Ok-Worked g c = turn_worked _ _ _ _ (rw c.in-Ok-Worked.field-0-is at c.in-Ok-Worked.ensures)

pub returns-in-Ok-Idle : goal.returns-in-Ok-Idle
returns-in-Ok-Idle g c = turn_idle _ _ _ _ _ _ _ (rw c.in-Ok-Idle.field-0-is at c.in-Ok-Idle.ensures) c.read_unless_over.ensures

pub returns-in-Err : goal.returns-in-Err
returns-in-Err g c = turn_refused _ _ _ _ _ c.in-Err.ensures
