use Rattle.typed_trees.specs.TypedTree.{typed_view}
use Rattle.order_columns.proofs.PlainLemmas.{columns_are}
use Rattle.order_columns.proofs.plain.item_column.Goals as goal

pub returns : goal.returns
returns c = columns_are (typed_view c.args.expression.now) c.plain_column.result c.plain_column.ensures
