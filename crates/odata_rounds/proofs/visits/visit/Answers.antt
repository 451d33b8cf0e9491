use Rattle.odata_rounds.proofs.VisitLemmas.{is_empty, is_some, serves_dry, serves_free, serves_lost, serves_rests, serves_wrote}
use Rattle.odata_rounds.proofs.visits.visit.Goals as goal

pub returns-then-is_empty : goal.returns-then-is_empty
returns-then-is_empty g c =
    serves_dry _ _ _ _ _ c.in-Ok.output _ c.in-Ok.ensures (is_empty _ _ c.is_empty.ensures c.if-is_empty.true) c.turn_or_read.ensures

pub returns-in-Err : goal.returns-in-Err
returns-in-Err g c = serves_free _ _ _ _ c.in-Err.ensures

pub returns-in-Ok-write : goal.returns-in-Ok-write
returns-in-Ok-write g c =
    serves_wrote _ _ _ _ _ c.in-Ok.output c.in-Ok-write.count c.in-Ok.ensures (is_some _ _ c.is_empty.ensures c.if-is_empty.false) c.in-Ok-write.ensures.write
    c.write.ensures.others c.took-told.ensures.took

pub returns-in-Err-Waits : goal.returns-in-Err-Waits
returns-in-Err-Waits g c =
    serves_rests _ _ _ _ c.in-Ok.output c.in-Ok.ensures (is_some _ _ c.is_empty.ensures c.if-is_empty.false)
    (rw c.in-Err-Waits.field-0-is at c.in-Err-Waits.ensures.write) c.write.ensures.others

pub returns-in-Err-Lost : goal.returns-in-Err-Lost
returns-in-Err-Lost g c =
    serves_lost _ _ _ _ c.in-Ok.output c.in-Ok.ensures (is_some _ _ c.is_empty.ensures c.if-is_empty.false)
    (rw c.in-Err-Lost.field-0-is at c.in-Err-Lost.ensures.write) c.write.ensures.others
