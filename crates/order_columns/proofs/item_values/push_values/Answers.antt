use Rattle.std.proofs.Common.{◌≡◌, map, rules, subst}
use Rattle.std.specs.Prelude.{Err, Some}
use Rattle.cell_types.specs.Value.{value_view}
use Rattle.typed_trees.specs.TypedTree.{typed_view}
use Rattle.row_eval.specs.Memory.{concatenates}
use Rattle.row_eval.specs.Outcome.{outcome}
use Rattle.row_eval.specs.Result.{Evaluates}
use Rattle.order_columns.proofs.KeepLemmas.{value_faults, value_pushed}
use Rattle.order_columns.proofs.item_values.push_values.Goals as goal

pub returns-in_err-value : goal.returns-in_err-value
returns-in_err-value c =
    let e = typed_view c.args.expression.now in
    let fault = c.in_err-value.field-0.0 in
    let given = value_faults e c.args.columns.now.rows c.args.first c.loop-number.number c.args.values.now c.loop-number.values (map value_view c.in_ok-row.row.items)
    (concatenates e) fault (search rules) c.in_ok-row.ensures
    (subst (λ vs. Evaluates value_view (outcome e (map value_view vs)) (concatenates e) (Err fault)) c.as_slice.ensures.value c.in_err-value.ensures) c.loop-number.invariant in
    search (rules, given)

pub loop-number-preserved : goal.loop-number-preserved
loop-number-preserved c =
    let e = typed_view c.args.expression.now in
    value_pushed e c.args.columns.now.rows c.args.first c.loop-number.number c.args.values.now c.loop-number.values c.push.new.self (map value_view c.in_ok-row.row.items)
    (value_view c.in_ok-value.value) (search rules) c.in_ok-row.ensures
    (subst (λ vs. outcome e (map value_view vs) ≡ Some (value_view c.in_ok-value.value)) c.as_slice.ensures.value c.in_ok-value.ensures) c.in_ok-push.ensures.pushed
    c.loop-number.invariant
