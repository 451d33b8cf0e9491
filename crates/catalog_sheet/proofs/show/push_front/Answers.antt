-- The pieces of the front one after another.
use Rattle.catalog_sheet.proofs.SheetLemmas.{added-six}
use Rattle.catalog_sheet.proofs.show.push_front.Goals as goal

pub returns : goal.returns
returns c whole =
    let sixth = c.push_number.ensures whole in
    let fifth = c.push-4.ensures sixth.0 in
    let fourth = c.push_datatype.ensures fifth.0 in
    let third = c.push-3.ensures fourth.0 in
    let second = c.push-2.ensures third.0 in
    let first = c.push.ensures second.0 in
    (first.0, rw (← c.as_str.ensures.value) (added-six _ _ _ _ _ _ _ _ _ _ _ _ _ first.1 second.1 third.1 fourth.1 fifth.1 sixth.1))
