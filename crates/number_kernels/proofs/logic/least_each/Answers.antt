use Rattle.std.proofs.Common.{◌<◌, ◌≢◌, length, get_or, arith, ap, ◌∙◌, below_more, get_or-set_other, get_or-set_same}
use Rattle.row_eval.specs.declared.truth.Truth.TheVariants.{False}
use Rattle.row_eval.specs.Logic.{least}
use Rattle.number_kernels.proofs.logic.least_each.Goals as goal

pub loop-i-preserved : goal.loop-i-preserved
loop-i-preserved c = (
  below_more _ _
      (λ k h. let ne : k ≢ c.loop-i.i = omega arith in rw get_or-set_other (c.loop-i.invariant.0 k h))
      (let lt : c.loop-i.i < length c.loop-i.left = omega arith in
      rw get_or-set_same (c.least.ensures ∙ ap (λ a. least a (get_or c.args.right.now c.loop-i.i False)) (c.loop-i.invariant.1 c.loop-i.i (omega arith)))),
  λ k h. let ne : k ≢ c.loop-i.i = omega arith in rw get_or-set_other (c.loop-i.invariant.1 k (omega arith)),
)
