use Rattle.std.proofs.Common.{map}
use Rattle.typed_trees.specs.TypedTree.{optional_text, text_view}
use Rattle.row_eval.specs.Outcome.{text_outcome}
use Rattle.block_eval.proofs.ListLemmas.{texts-among}
use Rattle.block_eval.proofs.lists.texts_in.Goals as goal

pub returns : goal.returns
returns c =
    texts-among (text_outcome (text_view c.args.operand.now)) c.args.columns.now c.args.wanted.now c.in_ok-texts.texts (map optional_text c.args.items.now) c.in_ok-truths.truths.items
    c.in_ok-texts.ensures c.in_ok-truths.ensures
