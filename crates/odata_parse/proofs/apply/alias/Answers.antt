use Rattle.std.proofs.lemmas.Result.{err_from_is_err_and}
use Rattle.odata_parse.specs.Apply.{an_alias}
use Rattle.odata_parse.proofs.ApplyLemmas.{alias_parts, alias_at}
use Rattle.odata_parse.proofs.apply.alias.Goals as goal

pub returns-in_err-expect_keyword-clause-each : goal.returns-in_err-expect_keyword-clause-each
returns-in_err-expect_keyword-clause-each c = λ n after r. let q = alias_parts r in absurd (c.in_err-expect_keyword.ensures.err q.0 q.1 q.2 q.3)

pub returns-in_err-name-clause-each : goal.returns-in_err-name-clause-each
returns-in_err-name-clause-each c = λ n after r.
    let p = err_from_is_err_and c.from_residual-in_err-name.result c.from_residual-in_err-name.ensures.1 in
    rw (p.1, p.2) (c.in_err-name.ensures.each n after (alias_at (rw (c.in_ok-expect_keyword.ensures.ok.0) at r)))

pub returns-clause-found : goal.returns-clause-found
returns-clause-found c = rw (c.in_ok-expect_keyword.ensures.ok.0) (an_alias c.in_ok-expect_keyword.ensures.ok.1 c.in_ok-name.ensures.found)

pub returns-clause-each : goal.returns-clause-each
returns-clause-each c = λ n after r. c.in_ok-name.ensures.each n after (alias_at (rw (c.in_ok-expect_keyword.ensures.ok.0) at r))
