use Rattle.std.proofs.Common.{length, refl}
use Rattle.number_kernels.proofs.OperandLemmas.{operands-computed}
use Rattle.number_kernels.proofs.arithmetic.compute_fitting.Goals as goal

pub nulls_of-requires-clause-left : goal.nulls_of-requires-clause-left
nulls_of-requires-clause-left c = c.operand-left.ensures.long (length c.args.wanted.now) c.requires.left

pub nulls_of-requires-clause-right : goal.nulls_of-requires-clause-right
nulls_of-requires-clause-right c = c.operand-right.ensures.long (length c.args.wanted.now) c.requires.right

pub exact_values-requires-clause-left : goal.exact_values-requires-clause-left
exact_values-requires-clause-left c = c.operand-left.ensures.long (length c.args.wanted.now) c.requires.left

pub exact_values-requires-clause-right : goal.exact_values-requires-clause-right
exact_values-requires-clause-right c = c.operand-right.ensures.long (length c.args.wanted.now) c.requires.right

pub returns : goal.returns
returns c =
    operands-computed c.args.operator c.args.wanted.now c.args.left.now c.args.right.now _ c.operand-left.result c.operand-right.result
    c.in_ok-nulls.nulls.items c.in_ok-values.values.items c.operand-left.ensures c.operand-right.ensures c.in_ok-nulls.ensures c.in_ok-values.ensures
    (c.in_ok-values.ensures.long, c.in_ok-nulls.ensures.long) (λ row. refl)
