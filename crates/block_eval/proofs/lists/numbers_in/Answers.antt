use Rattle.typed_trees.specs.TypedTree.{number_view}
use Rattle.row_eval.specs.Outcome.{number_outcome}
use Rattle.block_eval.proofs.ListLemmas.{numbers-among}
use Rattle.block_eval.proofs.lists.numbers_in.Goals as goal

pub returns : goal.returns
returns c =
    numbers-among (number_outcome (number_view c.args.operand.now)) c.args.columns.now c.args.wanted.now c.in_ok-numbers.numbers c.args.items.now c.in_ok-truths.truths.items
    c.in_ok-numbers.ensures c.in_ok-truths.ensures
