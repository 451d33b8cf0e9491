use Rattle.std.proofs.Common.{◌<◌, ◌≢◌, length, arith, below_more, get_or-set_other, get_or-set_same}
use Rattle.text_kernels.proofs.pairs.relate_each.Goals as goal

pub loop-i-preserved : goal.loop-i-preserved
loop-i-preserved c =
    below_more _ _
    (λ k h w. let ne : k ≢ c.loop-i.i = omega arith in rw get_or-set_other (c.loop-i.invariant k h w))
    (λ w.
    let lt : c.loop-i.i < length c.loop-i.out = omega arith in
    rw get_or-set_same (c.relation_at.ensures w))
