use Rattle.typed_trees.specs.TypedTree.{text_view}
use Rattle.row_eval.specs.Outcome.{text_outcome}
use Rattle.block_eval.proofs.MeasureLemmas.{lengths-give}
use Rattle.block_eval.proofs.measures.lengths_in.Goals as goal

pub returns : goal.returns
returns c =
    lengths-give (text_outcome (text_view c.args.text.now)) c.args.columns.now c.args.wanted.now c.in_ok-texts.texts c.in_ok-numbers.numbers c.in_ok-texts.ensures c.in_ok-numbers.ensures
