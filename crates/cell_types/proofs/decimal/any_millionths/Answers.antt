-- The parts of the text, and what they write.
use Rattle.std.proofs.Common.{◌≡◌, ◌∙◌, length, arith, sym, ap, ap₂, min}
use Rattle.std.specs.List.{after_first, before_first}
use Rattle.std.specs.Str.Parse.{starts_with_minus, without_leading_sign}
use Rattle.cell_types.specs.Decimal.{is_point, signed, value_of_millionths}
use Rattle.cell_types.proofs.DigitLaws.{AllDigits-take}
use Rattle.cell_types.proofs.DecimalLemmas.{both_parts, out_of_range, read-not, read-too_fine, read-written}
use Rattle.cell_types.proofs.decimal.any_millionths.Goals as goal

pub returns-then-not-are_parts : goal.returns-then-not-are_parts
returns-then-not-are_parts c =
    let rest = c.without_sign.ensures ∙ ap without_leading_sign c.as_bytes-bytes.ensures.value in
    read-not c.args.text.now _ _ (c.parts.ensures.whole ∙ ap (before_first is_point) rest, c.parts.ensures.fraction ∙ ap (after_first is_point) rest)
    (sym c.if-not-are_parts.ensures)

pub returns-then-not-are_zeros : goal.returns-then-not-are_zeros
returns-then-not-are_zeros c =
    let rest = c.without_sign.ensures ∙ ap without_leading_sign c.as_bytes-bytes.ensures.value in
    let count : c.min.result ≡ min 6 (length c.parts.result.1.now) = omega arith in
    read-too_fine c.args.text.now _ _ _ _ (c.parts.ensures.whole ∙ ap (before_first is_point) rest, c.parts.ensures.fraction ∙ ap (after_first is_point) rest)
    (sym c.if-not-are_parts.ensures) count c.split_at.ensures.back (sym c.if-not-are_zeros.ensures)

pub number_of_millionths-requires-clause-whole_digits : goal.number_of_millionths-requires-clause-whole_digits
number_of_millionths-requires-clause-whole_digits c = (both_parts c.parts.result.0.now c.parts.result.1.now (sym c.if-not-are_parts.ensures)).0

pub number_of_millionths-requires-clause-place_digits : goal.number_of_millionths-requires-clause-place_digits
number_of_millionths-requires-clause-place_digits c =
    rw c.split_at.ensures.front (AllDigits-take _ _ (both_parts c.parts.result.0.now c.parts.result.1.now (sym c.if-not-are_parts.ensures)).1)

pub returns-in-Some : goal.returns-in-Some
returns-in-Some c =
    let rest = c.without_sign.ensures ∙ ap without_leading_sign c.as_bytes-bytes.ensures.value in
    let count : c.min.result ≡ min 6 (length c.parts.result.1.now) = omega arith in
    c.number_in_range.ensures
    ∙ ap₂ (λ minus n. value_of_millionths (signed minus n)) (c.is_negative.ensures ∙ ap starts_with_minus c.as_bytes-bytes.ensures.value) c.in-Some.ensures.1
    ∙ read-written c.args.text.now _ _ _ _ _ (c.parts.ensures.whole ∙ ap (before_first is_point) rest, c.parts.ensures.fraction ∙ ap (after_first is_point) rest)
    (sym c.if-not-are_parts.ensures) count c.split_at.ensures.front c.split_at.ensures.back (sym c.if-not-are_zeros.ensures)

pub returns-in-None : goal.returns-in-None
returns-in-None c =
    let rest = c.without_sign.ensures ∙ ap without_leading_sign c.as_bytes-bytes.ensures.value in
    let count : c.min.result ≡ min 6 (length c.parts.result.1.now) = omega arith in
    sym (out_of_range (starts_with_minus c.args.text.now) _ c.in-None.ensures)
    ∙ read-written c.args.text.now _ _ _ _ _ (c.parts.ensures.whole ∙ ap (before_first is_point) rest, c.parts.ensures.fraction ∙ ap (after_first is_point) rest)
    (sym c.if-not-are_parts.ensures) count c.split_at.ensures.front c.split_at.ensures.back (sym c.if-not-are_zeros.ensures)
