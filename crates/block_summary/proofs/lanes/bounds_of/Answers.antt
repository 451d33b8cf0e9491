use Rattle.std.proofs.Common.{◌≡◌, get_or, length, arith, rules, w64, to_z}
use Rattle.std.specs.Prelude.{FitsSigned, pos}
use Rattle.std.proofs.lemmas.Int.{ints, to_z-of_z}
use Rattle.block_summary.proofs.BoundLemmas.{bounds_found, bounds_more, no_bounds}
use Rattle.block_summary.proofs.lanes.bounds_of.Goals as goal

pub loop-i-preserved : goal.loop-i-preserved
loop-i-preserved c =
    let value : FitsSigned w64 (get_or c.args.values.now c.loop-i.i (pos 0)) = search rules in
    let low : FitsSigned w64 c.value_or.result = search rules in
    let high : FitsSigned w64 c.value_or-in-loop-i.result = search rules in
    let least : FitsSigned w64 c.min-least.result = search rules in
    let greatest : FitsSigned w64 c.max-greatest.result = search rules in
    simp to_z-of_z (bounds_more c.loop-i.i c.args.nulls.now c.args.values.now (to_z w64 c.loop-i.least-bits) (to_z w64 c.loop-i.greatest-bits)
    c.value_or.result c.value_or-in-loop-i.result c.min-least.result c.max-greatest.result (omega (arith, ints)) (omega (arith, ints))
    (simp to_z-of_z at c.value_or.ensures) (simp to_z-of_z at c.value_or-in-loop-i.ensures)
    (simp to_z-of_z at c.min-least.ensures.value) (simp to_z-of_z at c.max-greatest.ensures.value) c.loop-i.invariant)

pub returns-then-least-greatest : goal.returns-then-least-greatest
returns-then-least-greatest c =
    let end : c.loop-i.i ≡ length c.args.values.now = omega arith in
    bounds_found c.args.nulls.now c.args.values.now (to_z w64 c.loop-i.least-bits) (to_z w64 c.loop-i.greatest-bits) (grind (arith, ints, c.if-least-greatest.true)) (omega (arith, ints)) (omega (arith, ints))
    (rw end at c.loop-i.invariant)

pub returns-else-least-greatest : goal.returns-else-least-greatest
returns-else-least-greatest c =
    let end : c.loop-i.i ≡ length c.args.values.now = omega arith in
    no_bounds c.args.nulls.now c.args.values.now (to_z w64 c.loop-i.least-bits) (to_z w64 c.loop-i.greatest-bits) (grind (arith, ints, c.if-least-greatest.false)) (rw end at c.loop-i.invariant)
