use Rattle.typed_trees.specs.TypedTree.{truth_view}
use Rattle.block_eval.proofs.LogicLemmas.{known-gives, within-gives}
use Rattle.block_eval.proofs.block.leaf_truths.Goals as goal

pub returns-in-Some : goal.returns-in-Some
returns-in-Some c =
    known-gives (truth_view c.args.expr.now) c.in-Some.truth c.args.summary.now c.args.columns.now c.args.wanted.now c.in_ok-truths.truths.items c.in-Some.ensures c.in_ok-truths.ensures

pub returns : goal.returns
returns c = within-gives (truth_view c.args.expr.now) c.args.summary.now c.args.columns.now c.args.wanted.now c.in_ok-truths-2.truths.items c.in_ok-truths-2.ensures
