use Rattle.std.proofs.Common.{List, inl, inr, refl, subst, sym}
use Rattle.clap.specs.Words.{Row}
use Rattle.listen_args.specs.declared.words.ListenOptions.{ListenOptions}
use Rattle.listen_args.specs.ListenOptions.{AsksBy}
use Rattle.listen_args.proofs.words.read_words.Goals as goal

pub returns-in-Some-clause-words : goal.returns-in-Some-clause-words
returns-in-Some-clause-words c =
    let Read : List Row → Type 0 = λ rows. AsksBy c.in-Some.read rows in
    let reading = c.in-Ok.ensures.matches in
    (reading.accepted, subst Read reading.rows_are c.in-Some.ensures.some)

pub returns-in-Ok-clause-fault : goal.returns-in-Ok-clause-fault
returns-in-Ok-clause-fault c =
    let Read : ListenOptions → List Row → Type 0 = λ asked rows. AsksBy asked rows in
    let reading = c.in-Ok.ensures.matches in
    inr (refl, reading.accepted, λ asked are. c.in-None.ensures.none asked (subst (Read asked) (sym reading.rows_are) are.1))

pub returns-clause-fault : goal.returns-clause-fault
returns-clause-fault c = inl c.in-Err.ensures.fault
