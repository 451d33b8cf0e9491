use Rattle.std.proofs.Common.{rules, to_z, of_z, ◌≡◌, ◌-◌, ◌^◌, ◌++◌, ◌∙◌, List, ℕ, length, ap, ap₂}
use Rattle.std.specs.Int.{w128}
use Rattle.std.specs.List.{after_first, before_first}
use Rattle.std.specs.Str.Parse.{digits_value, starts_with_minus}
use Rattle.cell_types.specs.Decimal.{decimal_text, is_point, signed}
use Rattle.value_forms.specs.Rounding.{in_six_places, is_fine, is_finer, nearest_even}
use Rattle.value_forms.proofs.rounding.rounded_text.Goals as goal

pub returns-then-not-is_fine-clause-made : goal.returns-then-not-is_fine-clause-made
unfolding is_finer
returns-then-not-is_fine-clause-made c =
    let rest = c.without_sign.ensures in
    c.if-not-is_fine.ensures ∙ ap₂ is_fine (c.parts.ensures.whole ∙ ap (before_first is_point) rest) (c.parts.ensures.fraction ∙ ap (after_first is_point) rest)

pub returns-clause-made : goal.returns-clause-made
unfolding is_finer
returns-clause-made c =
    let rest = c.without_sign.ensures in
    c.if-not-is_fine.ensures ∙ ap₂ is_fine (c.parts.ensures.whole ∙ ap (before_first is_point) rest) (c.parts.ensures.fraction ∙ ap (after_first is_point) rest)

pub returns-clause-text : goal.returns-clause-text
unfolding in_six_places
returns-clause-text c =
    let rest = c.without_sign.ensures in
    let number =
    c.nearest-millionths.ensures
    ∙ ap₂ (λ (whole places : List ℕ). nearest_even (digits_value 10 (whole ++ places)) (10 ^ (length places - 6)))
    (c.parts.ensures.whole ∙ ap (before_first is_point) rest) (c.parts.ensures.fraction ∙ ap (after_first is_point) rest) in
    let made : to_z w128 (of_z w128 c.with_sign-millionths.result) ≡ signed (starts_with_minus c.args.number.now) _ =
    (search rules) ∙ c.with_sign-millionths.ensures ∙ ap₂ signed c.is_negative.ensures number in
    c.in_ok-push_value.ensures.bytes
    ∙ ap₂ (λ (xs : List ℕ) z. xs ++ decimal_text z) c.new-text.ensures.items made
