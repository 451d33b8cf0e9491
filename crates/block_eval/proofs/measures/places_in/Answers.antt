use Rattle.typed_trees.specs.TypedTree.{text_view}
use Rattle.row_eval.specs.Outcome.{text_outcome}
use Rattle.block_eval.proofs.MeasureLemmas.{places-give}
use Rattle.block_eval.proofs.measures.places_in.Goals as goal

pub returns : goal.returns
returns c =
    places-give (text_outcome (text_view c.args.text.now)) (text_outcome (text_view c.args.part.now)) c.args.columns.now c.args.wanted.now c.in_ok-texts.texts c.in_ok-parts.parts c.in_ok-numbers.numbers
    c.in_ok-texts.ensures c.in_ok-parts.ensures c.in_ok-numbers.ensures
