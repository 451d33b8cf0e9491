use Rattle.std.proofs.Common.{length, ap, ap₂, ◌∙◌, subst, arith, rules, w64}
use Rattle.std.specs.Prelude.{FitsSigned}
use Rattle.std.specs.Str.Parse.{IsNumeral, digits_value, starts_with_minus, without_leading_sign}
use Rattle.std.proofs.lemmas.Int.{to_z-of_z}
use Rattle.cell_types.specs.Decimal.{signed}
use Rattle.cell_types.proofs.ShortIntegers.{value_below}
use Rattle.cell_types.proofs.integer.short_integer.Goals as goal

pub with_sign-requires : goal.with_sign-requires
with_sign-requires c =
    let below = value_below c.without_sign-digits.result.now c.in_ok-value.ensures.0.1 (omega arith) in
    omega (arith, below, c.in_ok-value.ensures.1)

pub returns : goal.returns
returns c =
    let is = c.without_sign-digits.ensures ∙ ap without_leading_sign c.as_bytes-bytes.ensures.value in
    let small : FitsSigned w64 c.with_sign.result = search rules in (
      (subst (IsNumeral 10) is c.in_ok-value.ensures.0, omega (arith, ap length is)),
      to_z-of_z w64 c.with_sign.result small ∙ c.with_sign.ensures
          ∙ ap₂ signed (c.is_negative.ensures ∙ ap starts_with_minus c.as_bytes-bytes.ensures.value) (c.in_ok-value.ensures.1 ∙ ap (digits_value 10) is),
    )
