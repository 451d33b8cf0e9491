use Rattle.std.proofs.Common.{◌+◌, arith}
use Rattle.std.proofs.lemmas.Int.Digits.{digits_value_more}
use Rattle.std.proofs.lemmas.Str.{digit_value_digit}
use Rattle.std.proofs.lemmas.Str.Parse.{digit_at, digits_value-take-le}
use Rattle.value_forms.proofs.rounding.number_of.Goals as goal

pub overflow_mul-number : goal.overflow_mul-number
overflow_mul-number c =
    let ds = c.args.digits.now in
    let i = c.loop-byte.byte-index in
    omega (arith, digits_value_more 10 ds i c.loop-byte-test.true, digits_value-take-le 10 ds (i + 1) (omega arith), c.requires.fits, c.loop-byte.invariant)

pub overflow_sub-byte : goal.overflow_sub-byte
overflow_sub-byte c = (digit_at c.args.digits.now c.loop-byte.byte-index c.requires.digits c.loop-byte-test.true).0

pub overflow_add-number : goal.overflow_add-number
overflow_add-number c =
    let ds = c.args.digits.now in
    let i = c.loop-byte.byte-index in
    omega (
      arith,
      digits_value_more 10 ds i c.loop-byte-test.true,
      digits_value-take-le 10 ds (i + 1) (omega arith),
      digit_value_digit _ (digit_at ds i c.requires.digits c.loop-byte-test.true),
      c.requires.fits,
      c.loop-byte.invariant,
      c.from.ensures,
    )

pub loop-byte-preserved : goal.loop-byte-preserved
loop-byte-preserved c =
    let ds = c.args.digits.now in
    let i = c.loop-byte.byte-index in
    omega (
      arith,
      digits_value_more 10 ds i c.loop-byte-test.true,
      digit_value_digit _ (digit_at ds i c.requires.digits c.loop-byte-test.true),
      c.loop-byte.invariant,
      c.from.ensures,
    )
