use Rattle.std.proofs.Common.{◌∙◌, Ok, ap, arith, rules, w64}
use Rattle.std.specs.Prelude.{FitsSigned}
use Rattle.std.specs.List.{after_first, before_first}
use Rattle.std.specs.Str.Parse.{starts_with_minus, without_leading_sign}
use Rattle.std.proofs.lemmas.Int.{to_z-of_z}
use Rattle.cell_types.specs.Decimal.{is_point, signed}
use Rattle.cell_types.specs.Value.{decimal}
use Rattle.cell_types.proofs.ShortDecimals.{short-decimal}
use Rattle.cell_types.proofs.decimal.short_millionths.Goals as goal

pub returns : goal.returns
returns c =
    let rest = c.without_sign.ensures ∙ ap without_leading_sign c.as_bytes-bytes.ensures.value in
    let small : FitsSigned w64 c.with_sign.result = search rules in
    let minus = c.is_negative.ensures ∙ ap starts_with_minus c.as_bytes-bytes.ensures.value in
    ap (λ z. Ok (decimal z)) (to_z-of_z w64 c.with_sign.result small ∙ c.with_sign.ensures ∙ ap (λ m. signed m c.in_ok-number.number) minus)
    ∙ short-decimal c.args.text.now c.parts.result.0.now c.parts.result.1.now c.in_ok-number.number
    (c.parts.ensures.whole ∙ ap (before_first is_point) rest, c.parts.ensures.fraction ∙ ap (after_first is_point) rest) c.in_ok-number.ensures.parts (omega arith)
    c.in_ok-number.ensures.small c.in_ok-number.ensures.value
