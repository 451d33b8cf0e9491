use Rattle.std.proofs.Common.{length, refl}
use Rattle.block_eval.proofs.TruthLemmas.{numbers-compared}
use Rattle.block_eval.proofs.truths.compare_truths.Goals as goal

pub returns : goal.returns
returns c =
    numbers-compared c.args.operator c.args.left.now c.args.right.now c.in_ok-truths.truths.items c.in_ok-left.left c.in_ok-right.right (length c.args.right.now) c.requires refl
    c.in_ok-left.ensures c.in_ok-right.ensures c.in_ok-truths.ensures
