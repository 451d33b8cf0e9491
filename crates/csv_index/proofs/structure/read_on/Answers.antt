use Rattle.std.proofs.Common.{◌-◌, length, take, drop, subst}
use Rattle.std.proofs.lemmas.List.{take_rest}
use Rattle.csv_grammar.specs.Faults.{cause_at, HasFault}
use Rattle.csv_index.proofs.StructureLemmas.{tells}
use Rattle.csv_index.proofs.Tables.{text_fault}
use Rattle.csv_index.proofs.structure.read_on.Goals as goal

pub returns-in-Err-clause-fault : goal.returns-in-Err-clause-fault
returns-in-Err-clause-fault c =
    let file = c.args.file.now in
    let mark = c.mark_len-mark.result in
    let text = take (length file - mark) (drop mark file) in
    let place = length text - c.in-Err.left in
    text_fault file mark c.fault_at.result c.requires.utf8 c.mark_len-mark.ensures.mark
    (tells file text mark place c.fault_at.result (take_rest file mark)
    (subst (λ t. HasFault t place (cause_at t place)) (take_rest file mark) c.in-Err.ensures.fault.2) c.fault_at.ensures)
