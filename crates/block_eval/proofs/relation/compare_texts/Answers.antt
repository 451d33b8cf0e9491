use Rattle.typed_trees.specs.TypedTree.{text_view}
use Rattle.row_eval.specs.Outcome.{text_outcome}
use Rattle.text_kernels.specs.declared.relation.TextRelation.TheVariants.{Comparison}
use Rattle.block_eval.proofs.TextLemmas.{related-gives}
use Rattle.block_eval.proofs.relation.compare_texts.Goals as goal

pub returns : goal.returns
returns c =
    related-gives (Comparison c.args.operator) (text_outcome (text_view c.args.left.now)) (text_outcome (text_view c.args.right.now)) c.args.rows.columns.now c.args.rows.wanted.now
    c.in_ok-left.left c.in_ok-right.right c.in_ok-truths.truths.items c.in_ok-left.ensures c.in_ok-right.ensures c.in_ok-truths.ensures
