use Rattle.std.proofs.Common.{◌∙◌}
use Rattle.odata_parse.specs.Apply.{a_word}
use Rattle.odata_parse.proofs.ApplyLemmas.{name_parts, name_at}
use Rattle.odata_parse.proofs.apply.name.Goals as goal

pub returns-in_err-word-clause-each : goal.returns-in_err-word-clause-each
returns-in_err-word-clause-each c = λ n after r. let q = name_parts r in absurd (c.in_err-word.ensures.err q.0 after q.1 q.2)

pub returns-clause-found : goal.returns-clause-found
returns-clause-found c = rw (c.in_ok-word.ensures.ok.0) (a_word c.in_ok-word.ensures.ok.1 c.in_ok-from_str.ensures.ok)

pub returns-clause-each : goal.returns-clause-each
returns-clause-each c = λ n after r.
    let q = name_at (rw (c.in_ok-word.ensures.ok.0) at r) in (c.in_ok-from_str.ensures.ok ∙ q.0, q.1)
