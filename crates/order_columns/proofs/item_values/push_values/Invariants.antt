use Rattle.typed_trees.specs.TypedTree.{typed_view}
use Rattle.order_columns.proofs.KeepLemmas.{HasRest}
use Rattle.order_columns.proofs.item_values.push_values.Given as goal

abbrev pub invariant-loop-number : goal.invariant-loop-number
invariant-loop-number l = HasRest (typed_view l.expression) l.columns.rows l.first l.number l.initial.values l.values
