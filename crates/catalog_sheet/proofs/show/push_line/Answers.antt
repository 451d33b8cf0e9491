-- The pieces of the line one after another.
use Rattle.catalog_sheet.proofs.SheetLemmas.{added-six}
use Rattle.catalog_sheet.proofs.show.push_line.Goals as goal

pub returns : goal.returns
returns c whole =
    let sixth = c.push-4.ensures whole in
    let fifth = c.push_number-2.ensures sixth.0 in
    let fourth = c.push-3.ensures fifth.0 in
    let third = c.push_number.ensures fourth.0 in
    let second = c.push-2.ensures third.0 in
    let first = c.push.ensures second.0 in
    let all = added-six _ _ _ _ _ _ _ c.name.result.now _ _ _ _ _ first.1 second.1 third.1 fourth.1 fifth.1 sixth.1 in
    (first.0, rw (← c.name.ensures, ← c.rows.ensures, ← c.width.ensures.columns) all)
