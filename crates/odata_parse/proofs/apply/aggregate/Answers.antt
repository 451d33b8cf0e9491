use Rattle.std.proofs.lemmas.Result.{err_from_is_err_and}
use Rattle.odata_parse.specs.Apply.{an_aggregate}
use Rattle.odata_parse.proofs.ApplyLemmas.{aggregate_parts, aggregate_at}
use Rattle.odata_parse.proofs.apply.aggregate.Goals as goal

pub returns-in_err-expect_keyword-clause-each : goal.returns-in_err-expect_keyword-clause-each
returns-in_err-expect_keyword-clause-each c = λ x after r.
    let q = aggregate_parts r in absurd (c.in_err-expect_keyword.ensures.err q.0 q.1 q.2 q.3)

pub returns-in_err-enclosed-clause-each : goal.returns-in_err-enclosed-clause-each
returns-in_err-enclosed-clause-each c = λ x after r.
    let p = err_from_is_err_and c.from_residual-in_err-enclosed.result c.from_residual-in_err-enclosed.ensures.1 in
    rw (p.1, p.2) (c.in_err-enclosed.ensures.each x after (aggregate_at (rw (c.in_ok-expect_keyword.ensures.ok.0) at r)))

pub returns-clause-found : goal.returns-clause-found
returns-clause-found c = rw (c.in_ok-expect_keyword.ensures.ok.0) (an_aggregate c.in_ok-expect_keyword.ensures.ok.1 c.in_ok-enclosed.ensures.found)

pub returns-clause-each : goal.returns-clause-each
returns-clause-each c = λ x after r. c.in_ok-enclosed.ensures.each x after (aggregate_at (rw (c.in_ok-expect_keyword.ensures.ok.0) at r))
