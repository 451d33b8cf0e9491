use Rattle.odata_parse.specs.Options.{select_all, select_name}
use Rattle.odata_parse.proofs.OptionLemmas.{select_star, select_word, select_none}
use Rattle.odata_parse.proofs.options.SelectItemItem.read.Goals as goal

pub returns-in-Star-clause-found : goal.returns-in-Star-clause-found
returns-in-Star-clause-found c = rw (c.in-Some.ensures.some) (select_all c.in-Star.is)

pub returns-in-Star-clause-each : goal.returns-in-Star-clause-each
returns-in-Star-clause-each c = λ x after r h. select_star c.in-Star.is (rw (c.in-Some.ensures.some) at r)

pub returns-in_ok-from_str-in-Word-clause-found : goal.returns-in_ok-from_str-in-Word-clause-found
returns-in_ok-from_str-in-Word-clause-found c = rw (c.in-Some.ensures.some) (select_name c.in-Word.is c.in_ok-from_str-in-Word.ensures.ok)

pub returns-in_ok-from_str-in-Word-clause-each : goal.returns-in_ok-from_str-in-Word-clause-each
returns-in_ok-from_str-in-Word-clause-each c = λ x after r h.
    let q = select_word c.in-Word.is (rw (c.in-Some.ensures.some) at r) in (rw (c.in_ok-from_str-in-Word.ensures.ok) q.0, q.1)

pub returns-in_default-kind-clause-each : goal.returns-in_default-kind-clause-each
returns-in_default-kind-clause-each c = λ x after r h. absurd (select_none c.in_default-kind.not-Star c.in_default-kind.not-Word (rw (c.in-Some.ensures.some) at r))
