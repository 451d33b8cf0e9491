use Rattle.std.proofs.Common.{arith}
use Rattle.odata_rounds.proofs.VisitLemmas.{read_end, read_lost, read_piece, read_waits}
use Rattle.odata_rounds.proofs.visits.read_in.Goals as goal

pub returns-in-Ok-eq0 : goal.returns-in-Ok-eq0
returns-in-Ok-eq0 g c =
    let test = c.in-Ok-eq0.field-0-test in
    let some = c.requires.room in
    read_end _ _ _ _ _ _ c.in-Ok-eq0.field-0 _ _ (omega arith) (omega arith) c.in-Ok-eq0.ensures.read c.read.ensures.others c.requires.not_over c.end.ensures c.came_of.ensures

pub returns-in-Ok : goal.returns-in-Ok
returns-in-Ok g c =
    let test = c.in-Ok.count-test in
    read_piece _ _ _ _ _ _ c.in-Ok.count _ _ _ (omega arith) c.in-Ok.ensures.read c.read.ensures.others c.requires.not_over c.piece.ensures c.came_of-in-Ok.ensures

pub returns-in-Err-Waits : goal.returns-in-Err-Waits
returns-in-Err-Waits g c = read_waits _ _ _ _ _ (rw c.in-Err-Waits.field-0-is at c.in-Err-Waits.ensures.read) c.read.ensures.others c.requires.not_over

pub returns-in-Err-Lost : goal.returns-in-Err-Lost
returns-in-Err-Lost g c = read_lost _ _ _ _ _ (rw c.in-Err-Lost.field-0-is at c.in-Err-Lost.ensures.read) c.read.ensures.others c.requires.not_over
