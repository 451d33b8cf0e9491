use Rattle.std.proofs.Common.{◌≡◌, drop, length, arith, rules, w64}
use Rattle.std.specs.Prelude.{FitsSigned}
use Rattle.std.proofs.lemmas.Int.{to_z-of_z}
use Rattle.std.proofs.lemmas.List.{length-map}
use Rattle.cell_types.specs.Kind.{number_of}
use Rattle.block_summary.specs.Types.{numbers_of}
use Rattle.block_eval.proofs.PackedLemmas.{packed-truths}
use Rattle.block_eval.proofs.packed.compare_packed.Goals as goal

pub returns : goal.returns
returns c =
    let number_fits : FitsSigned w64 c.args.number = search rules in
    let numbers = numbers_of c.args.column.now in
    let out = c.truth_each.new.out in
    let marks = c.mark_passing.new.out in
    let marked = simp to_z-of_z at c.mark_passing.ensures in
    let size : length out ≡ c.in_ok-truths.truths.len = omega (arith, c.truth_each.auto.out, c.as_mut_slice-2.ensures.len, c.in_ok-truths.truths.ok.0) in
    let rows : length out ≡ length numbers =
    omega (arith, c.truth_each.auto.out, c.as_mut_slice-2.ensures.len, c.in_ok-truths.truths.ok.0, c.in_ok-truths.ensures.len, c.len-2.ensures, length-map c.args.column.now number_of) in
    let size_of_marks : length marks ≡ c.in_ok-marks.marks.len = omega (arith, c.mark_passing.auto.out, c.as_mut_slice.ensures.len, c.in_ok-marks.marks.ok.0) in
    packed-truths c.args.operator numbers c.args.number c.in_ok-truths.truths.len c.in_ok-marks.marks.len out (drop (length out) c.in_ok-truths.truths.items) marks
    (drop (length marks) c.in_ok-marks.marks.items) c.as_slice.result.now size rows size_of_marks c.as_slice.ensures.value marked c.truth_each.ensures
