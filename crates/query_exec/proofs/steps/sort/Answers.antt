use Rattle.std.proofs.Common.{map, rules}
use Rattle.odata_query.specs.Query.{order_view}
use Rattle.query_exec.proofs.StepLemmas.{order_fails, order_gives}
use Rattle.query_exec.proofs.steps.sort.Goals as goal

pub of-requires : goal.of-requires
of-requires c = rw c.columns.ensures.rows c.requires.numbers

pub returns-in_err-order : goal.returns-in_err-order
returns-in_err-order c =
    let given = order_fails (map order_view c.args.items.now) c.args.input c.in_err-order.field-0.0 c.columns.result.now.rows c.columns.ensures.rows c.in_err-order.ensures in
    search (rules, given)

pub in_order-requires-clause-order : goal.in_order-requires-clause-order
in_order-requires-clause-order c = (map order_view c.args.items.now, rw c.columns.ensures.rows at c.in_ok-order.ensures)

pub returns : goal.returns
returns c =
    let items = map order_view c.args.items.now in
    let are = rw c.columns.ensures.rows at c.in_ok-order.ensures in
    order_gives items c.args.input c.in_order.result (c.in_order.ensures.rows items are) c.in_order.ensures.names c.in_order.ensures.count c.in_order.ensures.taken
