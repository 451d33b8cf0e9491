use Rattle.std.proofs.Common.{rules, ◌<◌, length, arith, w64}
use Rattle.std.specs.Prelude.{FitsSigned}
use Rattle.std.proofs.lemmas.Int.{to_z-of_z}
use Rattle.text_kernels.specs.Texts.{measured, text_lane}
use Rattle.text_kernels.proofs.MeasureLemmas.{number-written}
use Rattle.text_kernels.proofs.measures.measure_each.Goals as goal

pub loop-i-preserved : goal.loop-i-preserved
loop-i-preserved c =
    let i = c.loop-i.i in
    let number = c.split-number.result.0 in
    let is_null = c.split-number.result.1 in
    let fits : FitsSigned w64 number = search rules in
    let in_values : i < length c.loop-i.values = omega arith in
    let in_nulls : i < length c.loop-i.nulls = omega arith in
    rw (to_z-of_z w64 number fits)
    (number-written (λ k. measured c.args.measure (text_lane c.args.texts k) k) c.args.wanted.now c.loop-i.values c.loop-i.nulls i _ number is_null in_values in_nulls c.split-number.ensures
    c.in_ok-number_at_row.ensures c.loop-i.invariant)
