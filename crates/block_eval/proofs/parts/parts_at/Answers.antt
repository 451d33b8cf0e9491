use Rattle.std.proofs.Common.{◌≡◌, get_or, length, ap, ◌∙◌, arith}
use Rattle.std.specs.Prelude.{pos}
use Rattle.std.specs.Vec.{with_items}
use Rattle.std.proofs.lemmas.List.{with_items_is}
use Rattle.block_eval.specs.Parts.{day_part}
use Rattle.block_eval.proofs.PartLemmas.{parts-give}
use Rattle.block_eval.proofs.parts.parts_at.Goals as goal

pub returns : goal.returns
returns c =
    let made = c.in_ok-values.field-0 in
    let out = c.part_each.new.days in
    let stay = with_items_is made.values out (omega (arith, c.part_each.auto.days, c.as_mut_slice.ensures.len, made.values.ok.0)) in
    let long : length out ≡ length made.values.items = omega (arith, c.part_each.auto.days, ap length c.as_mut_slice.ensures.value) in
    parts-give c.args.part c.args.columns.now c.args.place c.args.wanted.now made (with_items made.values out) c.in_ok-values.ensures (ap length stay ∙ long)
    (λ i h. ap (λ xs. get_or xs i (pos 0)) stay ∙ c.part_each.ensures i (omega (arith, h, long)) ∙ ap (λ xs. day_part c.args.part (get_or xs i (pos 0))) c.as_mut_slice.ensures.value)
