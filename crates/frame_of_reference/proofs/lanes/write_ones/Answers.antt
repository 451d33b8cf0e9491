use Rattle.std.proofs.Common.{◌<◌, length, get_or, arith, rules, w64}
use Rattle.std.specs.Prelude.{FitsSigned, pos}
use Rattle.std.proofs.lemmas.Int.{ints}
use Rattle.frame_of_reference.proofs.LaneLemmas.{offsets_more}
use Rattle.frame_of_reference.proofs.lanes.write_ones.Goals as goal

pub loop-i-preserved : goal.loop-i-preserved
loop-i-preserved c =
    let fits : FitsSigned w64 (get_or c.args.values.now c.loop-i.i (pos 0)) = search rules in
    let lt : c.loop-i.i < length c.loop-i.out = omega arith in
    offsets_more _ _ _ _ _ _ _ lt c.loop-i.invariant (omega (arith, ints, c.offset_of.ensures.bound))
    (λ is. omega (arith, ints, c.offset_of.ensures.value is))
