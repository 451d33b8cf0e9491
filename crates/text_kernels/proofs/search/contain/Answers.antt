use Rattle.std.proofs.Common.{◌≡◌, ◌<◌, ◌∙◌, ℕ, arith, false, get_or, length, subst}
use Rattle.std.proofs.lemmas.List.{with_items_is}
use Rattle.cell_types.specs.Value.{null}
use Rattle.row_eval.specs.Row.{text_in}
use Rattle.number_kernels.specs.Lanes.{truth_lane}
use Rattle.text_kernels.specs.Texts.{marked_truth}
use Rattle.text_kernels.proofs.PartLemmas.{search-gives}
use Rattle.text_kernels.proofs.search.contain.Goals as goal

pub returns : goal.returns
returns c =
    let texts = c.args.texts.now in
    let marks = c.mark_containing.new.out in
    let ts = c.truth_each.new.out in
    let marks_stay = with_items_is c.in_ok-marks.marks marks (omega (arith, c.mark_containing.auto.out, c.as_mut_slice.ensures.len, c.in_ok-marks.marks.ok.0)) in
    let truths_stay = with_items_is c.in_ok-truths.truths ts (omega (arith, c.truth_each.auto.out, c.as_mut_slice-2.ensures.len, c.in_ok-truths.truths.ok.0)) in
    let seen : c.as_slice.result.now ≡ marks = c.as_slice.ensures.value ∙ marks_stay in
    let long : length ts ≡ length texts = omega (arith, c.truth_each.auto.out, c.as_mut_slice-2.ensures.len, c.in_ok-truths.ensures.len, c.in_ok-truths.truths.ok.0, c.len-2.ensures) in
    let is = subst (λ ms. (row : ℕ) → row < length texts → truth_lane ts row ≡ marked_truth (get_or ms row false) (text_in (get_or texts row null))) seen c.truth_each.ensures in
    rw truths_stay (search-gives c.args.part.now texts marks ts c.mark_containing.ensures is long)
