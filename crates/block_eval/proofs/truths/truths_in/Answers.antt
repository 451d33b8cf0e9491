use Rattle.std.proofs.Common.{get_or, length, subst, true}
use Rattle.std.specs.Prelude.{pos}
use Rattle.block_eval.specs.Lanes.{truth_in, HasTruths}
use Rattle.block_eval.proofs.NumberLemmas.{truths-give}
use Rattle.block_eval.proofs.truths.truths_in.Goals as goal

pub returns : goal.returns
returns c =
    let made = c.in_ok-values.field-0 in
    let is = c.in_ok-values.ensures in
    let ts = c.in_ok-truths.truths.items in
    let nulls = c.as_slice-2.result.now in
    let of_values = subst (λ vs. HasTruths (length vs) (λ row. truth_in (get_or nulls row true) (get_or vs row (pos 0))) ts) c.as_slice.ensures.value c.in_ok-truths.ensures in
    let of_both = subst (λ ns. HasTruths (length made.values.items) (λ row. truth_in (get_or ns row true) (get_or made.values.items row (pos 0))) ts) c.as_slice-2.ensures.value of_values in
    truths-give c.args.columns.now c.args.place c.args.wanted.now made ts is
    (subst (λ n. HasTruths n (λ row. truth_in (get_or made.nulls.items row true) (get_or made.values.items row (pos 0))) ts) is.values_long of_both)
