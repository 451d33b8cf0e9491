use Rattle.std.proofs.Common.{sym}
use Rattle.event_scripts.proofs.LineLemmas.{behind_first}
use Rattle.event_scripts.proofs.NumberLemmas.{number_bad, number_found, number_none}
use Rattle.event_scripts.proofs.command.first_number.Goals as goal

pub returns-in_default : goal.returns-in_default
returns-in_default c = number_none c.args.text.now (sym c.in_default.ensures)

pub returns-in-None : goal.returns-in-None
returns-in-None c = number_bad c.args.text.now c.in-Some.at c.split_at.result.0.now (sym c.in-Some.ensures) c.split_at.ensures.front c.in-None.ensures

pub returns-in-Some-read_number : goal.returns-in-Some-read_number
returns-in-Some-read_number c =
    number_found c.args.text.now c.in-Some.at c.in-Some-read_number.number c.split_at.result.0.now _ (sym c.in-Some.ensures) c.split_at.ensures.front
    (behind_first c.args.text.now c.in-Some.at c.split_at.result.1.now c.split_at.ensures.back) c.in-Some-read_number.ensures
