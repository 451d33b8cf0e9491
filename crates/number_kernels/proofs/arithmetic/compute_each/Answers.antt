use Rattle.std.proofs.Common.{◌<◌, ◌≢◌, length, arith, rules, w64, below_more, get_or-set_other, get_or-set_same, ◌∙◌}
use Rattle.std.specs.Prelude.{FitsSigned}
use Rattle.std.proofs.lemmas.Int.{to_z-of_z}
use Rattle.number_kernels.proofs.LaneLemmas.{exact-more}
use Rattle.number_kernels.proofs.arithmetic.compute_each.Goals as goal

pub loop-i-preserved : goal.loop-i-preserved
loop-i-preserved c =
    let lf : FitsSigned w64 c.value-left_value.result = search rules in
    let rf : FitsSigned w64 c.value-right_value.result = search rules in
    let fits : FitsSigned w64 c.exact.result = search rules in
    below_more _ _
    (λ k h. let ne : k ≢ c.loop-i.i = omega arith in rw get_or-set_other (c.loop-i.invariant k h))
    (let lt : c.loop-i.i < length c.loop-i.out = omega arith in
    rw get_or-set_same (λ fit. to_z-of_z w64 c.exact.result fits
    ∙ exact-more c.args.operator c.args.left c.args.right c.loop-i.i c.value-left_value.result c.value-right_value.result c.exact.result c.value-left_value.ensures c.value-right_value.ensures (rw (to_z-of_z w64 _ lf, to_z-of_z w64 _ rf) at c.exact.ensures) fit))
