-- The value of the date, or the fault of a text that is none's.
use Rattle.std.proofs.Common.{◌∙◌, ap, sym, Ok}
use Rattle.cell_types.specs.Value.{date}
use Rattle.cell_types.proofs.DateLemmas.{date_of-text, date_of-none}
use Rattle.cell_types.proofs.date.read_date.Goals as goal

pub returns-in-Some : goal.returns-in-Some
returns-in-Some c =
    let is = c.in-Some.ensures in
    ap (λ y. Ok (date y c.in-Some.date.month c.in-Some.date.day)) is.1 ∙ sym (date_of-text c.args.form c.args.text.now is.0 c.in-Some.date.month c.in-Some.date.day is.2)

pub returns-in-None : goal.returns-in-None
returns-in-None c = sym (date_of-none c.args.form c.args.text.now c.in-None.ensures)
