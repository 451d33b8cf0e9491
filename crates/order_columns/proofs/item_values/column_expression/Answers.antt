use Rattle.std.proofs.Common.{◌≡◌, ◌∙◌, ap}
use Rattle.std.proofs.lemmas.Result.{IfOk-weaker}
use Rattle.typed_trees.specs.TypedTree.{typed_view}
use Rattle.typed_trees.specs.Plain.{as_column, kind_expr}
use Rattle.order_columns.specs.Plain.{IsPlainColumn}
use Rattle.order_columns.proofs.PlainLemmas.{column_is}
use Rattle.order_columns.proofs.item_values.column_expression.Goals as goal

pub returns : goal.returns
returns c =
    let column = c.args.column in
    IfOk-weaker c.column.result (λ made. typed_view made ≡ kind_expr column.place column.kind _) (λ made. IsPlainColumn (typed_view made) column)
    (λ made is. column_is _ column (ap as_column is ∙ c.columns_are_columns.ensures column.place column.kind _)) c.column.ensures
