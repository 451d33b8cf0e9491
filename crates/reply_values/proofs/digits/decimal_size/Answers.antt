-- The sign, and the number of millionths without it.
use Rattle.std.proofs.Common.{pos, ◌<ℤ◌, ◌≤ℤ◌, arith, rules}
use Rattle.std.proofs.lemmas.Int.{ints}
use Rattle.reply_values.proofs.DecimalLemmas.{text-negative, text-other}
use Rattle.reply_values.proofs.DigitLemmas.{short_millionths}
use Rattle.reply_values.proofs.digits.decimal_size.Goals as goal

pub overflow_add-result : goal.overflow_add-result
overflow_add-result c = omega (arith, c.millionths_size-2.ensures, short_millionths c.unsigned_abs-2.result (omega (arith, c.unsigned_abs-2.ensures.bound)))

pub returns-then-millionths-ge0 : goal.returns-then-millionths-ge0
returns-then-millionths-ge0 c =
    let above : pos 0 ≤ℤ c.args.millionths = first_of (omega (arith, ints, c.if-millionths-ge0.true), grind (arith, ints, c.if-millionths-ge0.true), search rules) in
    rw (text-other c.args.millionths _ c.ranges.millionths above c.unsigned_abs.ensures.value) c.millionths_size.ensures

pub returns : goal.returns
returns c =
    let below : c.args.millionths <ℤ pos 0 = first_of (omega (arith, ints, c.if-millionths-ge0.false), grind (arith, ints, c.if-millionths-ge0.false), search rules) in
    rw (text-negative c.args.millionths _ c.ranges.millionths below c.unsigned_abs-2.ensures.value) (omega (arith, c.millionths_size-2.ensures))
