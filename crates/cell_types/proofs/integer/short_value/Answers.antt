use Rattle.std.proofs.Common.{◌≡◌, length, arith, ap, sym, ◌∙◌, subst}
use Rattle.std.specs.Str.Parse.{AllDigits, digits_value}
use Rattle.std.proofs.lemmas.Bool.{eqb-false}
use Rattle.std.proofs.lemmas.List.{take_all}
use Rattle.cell_types.proofs.ShortIntegers.{digit_more, no_digit, short_below, value_below}
use Rattle.cell_types.proofs.integer.short_value.Goals as goal

pub returns-then-digit-gt9 : goal.returns-then-digit-gt9
returns-then-digit-gt9 c = no_digit c.args.digits.now c.loop-byte.byte-index c.loop-byte-test.true (λ low high. absurd (omega arith))

pub overflow_mul-value : goal.overflow_mul-value
overflow_mul-value c =
    let below = short_below c.args.digits.now c.loop-byte.byte-index c.loop-byte.invariant.0 c.loop-byte-test.true c.requires in
    omega (arith, c.loop-byte.invariant.1)

pub overflow_add-value : goal.overflow_add-value
overflow_add-value c =
    let below = short_below c.args.digits.now c.loop-byte.byte-index c.loop-byte.invariant.0 c.loop-byte-test.true c.requires in
    omega (arith, c.loop-byte.invariant.1, c.from.ensures)

pub loop-byte-preserved : goal.loop-byte-preserved
loop-byte-preserved c =
    digit_more c.args.digits.now c.loop-byte.byte-index c.loop-byte.value c.from.result c.loop-byte-test.true c.loop-byte.invariant.0 c.loop-byte.invariant.1
    (omega (arith, c.from.ensures)) (omega (arith, c.from.ensures))

pub returns : goal.returns
returns c =
    let all = take_all c.loop-byte.byte-index c.args.digits.now c.loop-byte-test.false in
    let digits = subst (AllDigits 10) all c.loop-byte.invariant.0 in
    let below = value_below c.args.digits.now digits c.requires in
    let value : c.loop-byte.value ≡ digits_value 10 c.args.digits.now = c.loop-byte.invariant.1 ∙ ap (digits_value 10) all in
    ((omega (arith, eqb-false (length c.args.digits.now) 0 (sym c.if-is_empty.ensures)), digits), value)
