use Rattle.typed_trees.specs.TypedTree.{text_view}
use Rattle.row_eval.specs.Outcome.{text_outcome}
use Rattle.text_kernels.specs.declared.relation.TextRelation.TheVariants.{Test}
use Rattle.block_eval.proofs.TextLemmas.{related-gives}
use Rattle.block_eval.proofs.relation.test_texts.Goals as goal

pub returns : goal.returns
returns c =
    related-gives (Test c.args.test) (text_outcome (text_view c.args.text.now)) (text_outcome (text_view c.args.part.now)) c.args.rows.columns.now c.args.rows.wanted.now
    c.in_ok-texts.texts c.in_ok-parts.parts c.in_ok-truths.truths.items c.in_ok-texts.ensures c.in_ok-parts.ensures c.in_ok-truths.ensures
