use Rattle.std.proofs.Common.{length}
use Rattle.number_kernels.proofs.OperandLemmas.{all-computed}
use Rattle.number_kernels.proofs.arithmetic.compute.Goals as goal

pub are_small-requires-clause-left : goal.are_small-requires-clause-left
are_small-requires-clause-left c = c.operand.ensures.long (length c.args.wanted.now) c.requires.left

pub are_small-requires-clause-right : goal.are_small-requires-clause-right
are_small-requires-clause-right c = c.operand-2.ensures.long (length c.args.wanted.now) c.requires.right

pub returns : goal.returns
returns c =
    all-computed c.args.operator c.args.wanted.now c.args.left.now c.args.right.now c.in_ok-numbers.numbers c.operand.result c.operand-2.result
    c.operand.ensures c.operand-2.ensures (c.are_small.ensures c.if-not-are_small.false) c.in_ok-numbers.ensures
