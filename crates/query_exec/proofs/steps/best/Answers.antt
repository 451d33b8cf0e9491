use Rattle.std.proofs.Common.{length, map, rules, ◌∙◌}
use Rattle.odata_query.specs.Query.{order_view}
use Rattle.query_plan.specs.Plan.{choosing, node_result}
use Rattle.row_columns.proofs.NumberedLaws.{all_numbered, all_within}
use Rattle.query_exec.proofs.StepLemmas.{step_fails, step_gives, stored_in_order}
use Rattle.query_exec.proofs.steps.best.Goals as goal

pub best_numbers-requires-clause-within : goal.best_numbers-requires-clause-within
best_numbers-requires-clause-within c = rw (c.of-columns.ensures, c.columns.ensures.rows, c.in_ok-all.ensures, c.len.ensures) (all_within (length c.args.input.rows))

pub best_numbers-requires-clause-fits : goal.best_numbers-requires-clause-fits
best_numbers-requires-clause-fits c = rw (c.of-columns.ensures, c.columns.ensures.rows, c.in_ok-all.ensures, c.len.ensures, all_numbered c.args.input.rows) c.requires.numbers

pub with_rows-requires : goal.with_rows-requires
with_rows-requires c = rw c.as_slice.ensures.value (rw (c.of-columns.ensures, c.columns.ensures.rows) at c.in_ok-numbers.ensures.within)

pub returns-in_err-numbers : goal.returns-in_err-numbers
returns-in_err-numbers c =
    let given = step_fails (choosing (map order_view c.args.items.now) c.args.most) c.args.input c.in_err-numbers.field-0.0 c.of-columns.result.rows c.in_ok-all.all.items
    (c.of-columns.ensures ∙ c.columns.ensures.rows) (rw c.len.ensures at c.in_ok-all.ensures) c.in_err-numbers.ensures in
    search (rules, given)

pub returns : goal.returns
returns c =
    let r = c.args.input in
    let node = choosing (map order_view c.args.items.now) c.args.most in
    let gives = rw (c.of-columns.ensures, c.columns.ensures.rows, c.in_ok-all.ensures, c.len.ensures) at c.in_ok-numbers.ensures.made in
    stored_in_order (node_result node r) c.in_ok-rows.rows c.stored.result
    (step_gives node r c.in_ok-rows.rows c.in_ok-numbers.numbers.items gives (rw (c.as_slice.ensures.value, c.count-count.ensures) at c.in_ok-rows.ensures)) c.stored.ensures
