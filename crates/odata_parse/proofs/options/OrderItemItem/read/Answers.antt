use Rattle.std.proofs.Common.{◌∙◌}
use Rattle.std.proofs.lemmas.Result.{err_from_is_err_and}
use Rattle.odata_parse.specs.Options.{order_alone, order_ascending, order_descending}
use Rattle.odata_parse.proofs.OptionLemmas.{order_tail, order_none, OrderTail-descending, OrderTail-ascending, OrderTail-alone}
use Rattle.odata_parse.proofs.options.OrderItemItem.read.Goals as goal

pub returns-in_err-expression-clause-each : goal.returns-in_err-expression-clause-each
returns-in_err-expression-clause-each c =
    let p = err_from_is_err_and c.from_residual.result c.from_residual.ensures.1 in
    rw (p.1, p.2) (order_none _ c.in_err-expression.ensures.each)

pub returns-in-Some-clause-found : goal.returns-in-Some-clause-found
returns-in-Some-clause-found c =
    let s = c.in-Some.ensures.some in order_descending (rw (s.0) at c.in_ok-expression.ensures.found) s.1

pub returns-in-Some-clause-each : goal.returns-in-Some-clause-each
returns-in-Some-clause-each c = λ x after r h.
    let s = c.in-Some.ensures.some in OrderTail-descending s.1 (rw (s.0) at (order_tail c.in_ok-expression.ensures.each r h)) h

pub returns-in-Some-take_keyword-clause-found : goal.returns-in-Some-take_keyword-clause-found
returns-in-Some-take_keyword-clause-found c =
    let s = c.in-Some-take_keyword.ensures.some in
    order_ascending (rw (← c.in_default.ensures.none.0, s.0) at c.in_ok-expression.ensures.found) s.1

pub returns-in-Some-take_keyword-clause-each : goal.returns-in-Some-take_keyword-clause-each
returns-in-Some-take_keyword-clause-each c = λ x after r h.
    let s = c.in-Some-take_keyword.ensures.some in
    OrderTail-ascending s.1 (rw (← c.in_default.ensures.none.0, s.0) at (order_tail c.in_ok-expression.ensures.each r h)) h

pub returns-clause-found : goal.returns-clause-found
returns-clause-found c =
    rw (c.in_default-take_keyword.ensures.none.0, c.in_default.ensures.none.0) (order_alone c.in_ok-expression.ensures.found)

pub returns-clause-each : goal.returns-clause-each
returns-clause-each c = λ x after r h.
    let q = OrderTail-alone c.in_default.ensures.none.1 (rw (c.in_default.ensures.none.0) at c.in_default-take_keyword.ensures.none.1) (order_tail c.in_ok-expression.ensures.each r h) in
    (q.0, c.in_default-take_keyword.ensures.none.0 ∙ c.in_default.ensures.none.0 ∙ q.1)
