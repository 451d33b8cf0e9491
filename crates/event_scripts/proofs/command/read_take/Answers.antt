use Rattle.std.proofs.Common.{List, ℕ, subst, sym}
use Rattle.event_scripts.specs.Command.{IsNumber}
use Rattle.event_scripts.proofs.NumberLemmas.{one_number}
use Rattle.event_scripts.proofs.command.read_take.Goals as goal

pub returns-in_default-clause-command : goal.returns-in_default-clause-command
returns-in_default-clause-command c = λ _ h. c.in_default.ensures h.0 h.2 h.4

pub returns-in-None-clause-command : goal.returns-in-None-clause-command
returns-in-None-clause-command c = λ _ h. c.in-None.ensures h.1 (subst (λ (text : List ℕ). IsNumber text h.1) (sym (one_number c.in-Some.ensures h.4).1) h.5)
