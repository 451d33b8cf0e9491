use Rattle.std.proofs.Common.{◌≡◌, rules, subst}
use Rattle.typed_trees.specs.TypedTree.{typed_view}
use Rattle.order_columns.specs.Plain.{IsPlainColumn}
use Rattle.order_columns.proofs.plain.is_column.Goals as goal

pub returns-in-Some : goal.returns-in-Some
returns-in-Some c = λ yes.
    let same : c.in-Some.other ≡ c.args.column = search (rules, c.eq.ensures, yes) in
    subst (IsPlainColumn (typed_view c.args.expression.now)) same c.in-Some.ensures
