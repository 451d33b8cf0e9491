use Rattle.std.proofs.Common.{ap, length, subst, sym, ◌∙◌}
use Rattle.number_kernels.specs.Arithmetic.{HasNulls}
use Rattle.number_kernels.specs.Lanes.{number_at}
use Rattle.number_kernels.proofs.OperandLemmas.{operands-divided}
use Rattle.number_kernels.proofs.division.divide.Goals as goal

pub nulls_of-requires-clause-left : goal.nulls_of-requires-clause-left
nulls_of-requires-clause-left c = c.operand-left.ensures.long (length c.args.wanted.now) c.requires.left

pub nulls_of-requires-clause-right : goal.nulls_of-requires-clause-right
nulls_of-requires-clause-right c = c.operand-right.ensures.long (length c.args.wanted.now) c.requires.right

pub quotients-requires : goal.quotients-requires
quotients-requires c = record {
  left = c.operand-left.ensures.long (length c.args.wanted.now) c.requires.left;
  right = c.operand-right.ensures.long (length c.args.wanted.now) c.requires.right;
  nulls = ap length c.as_slice.ensures.value ∙ c.in_ok-nulls.ensures.long;
}

pub returns : goal.returns
returns c =
    let a = c.operand-left.result in
    let b = c.operand-right.result in
    let wanted = c.args.wanted.now in
    let seen = c.as_slice.ensures.value in
    operands-divided c.args.operator wanted c.args.left.now c.args.right.now _ (record { left = a; right = b; nulls = c.as_slice.result }) c.in_ok-values.values.items
    c.operand-left.ensures c.operand-right.ensures (subst (HasNulls (length wanted) a b) (sym seen) c.in_ok-nulls.ensures) c.in_ok-values.ensures
    (c.in_ok-values.ensures.long, c.in_ok-nulls.ensures.long) (λ row. ap (λ n. number_at c.in_ok-values.values.items n row) (sym seen))
