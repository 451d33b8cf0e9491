use Rattle.std.proofs.Common.{length, rules, ◌∙◌}
use Rattle.typed_trees.specs.TypedTree.{truth_view}
use Rattle.query_plan.specs.Plan.{filtering, node_result}
use Rattle.row_columns.proofs.NumberedLaws.{all_numbered, all_within}
use Rattle.query_exec.proofs.StepLemmas.{step_fails, step_gives, stored_in_order}
use Rattle.query_exec.proofs.steps.filter.Goals as goal

pub passing_numbers-requires-clause-within : goal.passing_numbers-requires-clause-within
passing_numbers-requires-clause-within c = rw (c.columns.ensures.rows, c.as_slice.ensures.value, c.in_ok-all.ensures, c.len.ensures) (all_within (length c.args.input.rows))

pub passing_numbers-requires-clause-fits : goal.passing_numbers-requires-clause-fits
passing_numbers-requires-clause-fits c = rw (c.columns.ensures.rows, c.as_slice.ensures.value, c.in_ok-all.ensures, c.len.ensures, all_numbered c.args.input.rows) c.requires

pub with_rows-requires : goal.with_rows-requires
with_rows-requires c = rw c.as_slice-2.ensures.value (rw c.columns.ensures.rows at c.in_ok-numbers.ensures.within)

pub returns-in_err-numbers : goal.returns-in_err-numbers
returns-in_err-numbers c =
    let given = step_fails (filtering (truth_view c.args.condition.now)) c.args.input c.in_err-numbers.field-0.0 c.columns.result.now.rows c.as_slice.result.now
    c.columns.ensures.rows (c.as_slice.ensures.value ∙ (rw c.len.ensures at c.in_ok-all.ensures)) c.in_err-numbers.ensures in
    search (rules, given)

pub returns : goal.returns
returns c =
    let r = c.args.input in
    let gives = rw (c.columns.ensures.rows, c.as_slice.ensures.value, c.in_ok-all.ensures, c.len.ensures) at c.in_ok-numbers.ensures.made in
    let node = filtering (truth_view c.args.condition.now) in
    stored_in_order (node_result node r) c.in_ok-rows.rows c.stored.result
    (step_gives node r c.in_ok-rows.rows c.in_ok-numbers.numbers.items gives (rw (c.as_slice-2.ensures.value, c.count-count.ensures) at c.in_ok-rows.ensures)) c.stored.ensures
