use Rattle.std.proofs.Common.{refl}
use Rattle.query_exec.proofs.run.Run.advance.Goals as goal

pub returns-in-Ok-None-clause-advances : goal.returns-in-Ok-None-clause-advances
returns-in-Ok-None-clause-advances c = λ plan table handed stands is. rw (c.in-Ok-None.is, c.in-Ok-None.field-0-is) at (c.step.ensures.steps plan table handed stands is)

pub returns-in-Ok-Some-clause-advances : goal.returns-in-Ok-Some-clause-advances
returns-in-Ok-Some-clause-advances c = λ plan table handed stands is.
    let given = c.in-Ok-Some.rows in
    let steps = rw (c.in-Ok-Some.is, c.in-Ok-Some.field-0-is) at (c.step.ensures.steps plan table handed stands is) in
    let unordered = steps.2 in (
      given.rows,
      steps.0,
      steps.1,
      record { given = given; ended = refl; rows_are = record { rows_are = refl; untaken = unordered.untaken } },
      record { given = given; gives = refl; unordered = record { untaken = unordered.untaken; unordered_is = unordered.unordered_is } },
    )
