use Rattle.std.proofs.Common.{get_or, false, cond, refl, ap, ◌∙◌, arith, rules, w64, to_z, pos, ◌+ℤ◌, FitsSigned}
use Rattle.std.specs.Int.{w128}
use Rattle.std.proofs.lemmas.Int.{to_z-of_z}
use Rattle.block_summary.proofs.SpanLemmas.{fits-high, fits-low}
use Rattle.block_summary.proofs.TotalLemmas.{total-more, total-all}
use Rattle.block_summary.proofs.lanes.total_of.Goals as goal

pub loop-i-preserved : goal.loop-i-preserved
loop-i-preserved c =
    let nulls = c.args.nulls.now in
    let values = c.args.values.now in
    let i = c.loop-i.i in
    let sum = to_z w128 c.loop-i.sum-bits in
    let element = get_or values i (pos 0) in
    let value_fits : FitsSigned w64 c.value_or.result = search rules in
    let element_fits : FitsSigned w64 element = search rules in
    let from_fits : FitsSigned w128 c.from-sum.result = search rules in
    let sum_fits : FitsSigned w128 (sum +ℤ c.from-sum.result) = search rules in
    let is = c.from-sum.ensures ∙ to_z-of_z w64 c.value_or.result value_fits ∙ c.value_or.ensures ∙ ap (cond (get_or nulls i false) (pos 0)) (to_z-of_z w64 element element_fits) in
    simp to_z-of_z (total-more i sum c.from-sum.result (sum +ℤ c.from-sum.result) nulls values c.loop-i-test.true (fits-low element element_fits) (fits-high element element_fits) is refl c.loop-i.invariant)

pub returns : goal.returns
returns c = total-all c.loop-i.i (to_z w128 c.loop-i.sum-bits) c.args.nulls.now c.args.values.now (omega (arith, c.loop-i-test.false)) c.loop-i.invariant
