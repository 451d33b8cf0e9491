use Rattle.std.proofs.Common.{ap, ◌∙◌}
use Rattle.std.proofs.lemmas.Result.{err_from_is_err_and}
use Rattle.odata_parse.specs.Apply.{an_aggregation}
use Rattle.odata_parse.specs.Tree.{aggregate}
use Rattle.odata_parse.proofs.ApplyLemmas.{only_aggregate_at}
use Rattle.odata_parse.proofs.apply.TransformationItem.read.Goals as goal

pub returns-in_err-items-clause-each : goal.returns-in_err-items-clause-each
returns-in_err-items-clause-each c = λ x after r h.
    let p = err_from_is_err_and c.from_residual-in_err-items.result c.from_residual-in_err-items.ensures.1 in
    let f = c.in_default.ensures.none in
    let g = c.in_default-take_keyword.ensures.none in
    let q = only_aggregate_at f.0 g.0 r f.1 g.1 in
    rw (p.1, p.2) (c.in_err-items.ensures.each q.0 after q.1)

pub returns-clause-found : goal.returns-clause-found
returns-clause-found c =
    let f = c.in_default.ensures.none in
    let g = c.in_default-take_keyword.ensures.none in
    rw (← f.0, ← g.0) (an_aggregation c.in_ok-items.ensures.found)

pub returns-clause-each : goal.returns-clause-each
returns-clause-each c = λ x after r h.
    let f = c.in_default.ensures.none in
    let g = c.in_default-take_keyword.ensures.none in
    let q = only_aggregate_at f.0 g.0 r f.1 g.1 in
    let i = c.in_ok-items.ensures.each q.0 after q.1 in
    (ap aggregate i.0 ∙ q.2, i.1)
