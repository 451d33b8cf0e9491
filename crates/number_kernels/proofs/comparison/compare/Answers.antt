use Rattle.number_kernels.proofs.OperandLemmas.{operands-compared}
use Rattle.number_kernels.proofs.comparison.compare.Goals as goal

pub truths_between-requires-clause-left : goal.truths_between-requires-clause-left
truths_between-requires-clause-left c = c.operand.ensures.long c.args.rows c.requires.left

pub truths_between-requires-clause-right : goal.truths_between-requires-clause-right
truths_between-requires-clause-right c = c.operand-2.ensures.long c.args.rows c.requires.right

pub returns : goal.returns
returns c =
    operands-compared c.args.operator c.args.rows c.args.left.now c.args.right.now c.operand.result c.operand-2.result c.in_ok-truths.truths.items
    c.operand.ensures c.operand-2.ensures c.in_ok-truths.ensures
