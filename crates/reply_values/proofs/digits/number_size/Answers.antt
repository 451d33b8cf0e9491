use Rattle.std.proofs.Common.{◌/◌, arith}
use Rattle.itoa.proofs.Decimal.{length_four}
use Rattle.reply_values.proofs.DigitLemmas.{eight_more, short_number, sixteen_more, twelve_more}
use Rattle.reply_values.proofs.digits.number_size.Goals as goal

pub overflow_add-result : goal.overflow_add-result
overflow_add-result c = omega (arith, c.short_size-then-number-lt100000000.ensures, short_number (c.args.number / 10_000) (omega (arith, c.ranges.number)))

pub returns-then-number-lt100000000 : goal.returns-then-number-lt100000000
returns-then-number-lt100000000 c = omega (arith, c.short_size-then-number-lt100000000.ensures, length_four c.args.number (omega (arith, c.if-number-lt10000.false)) (omega (arith, c.ranges.number)))

pub overflow_add-result-then-number-lt1000000000000 : goal.overflow_add-result-then-number-lt1000000000000
overflow_add-result-then-number-lt1000000000000 c = omega (arith, c.short_size-then-number-lt1000000000000.ensures, short_number (c.args.number / 100_000_000) (omega (arith, c.ranges.number)))

pub returns-then-number-lt1000000000000 : goal.returns-then-number-lt1000000000000
returns-then-number-lt1000000000000 c = omega (arith, c.short_size-then-number-lt1000000000000.ensures, eight_more c.args.number (omega (arith, c.if-number-lt100000000.false)) (omega (arith, c.ranges.number)))

pub overflow_add-result-then-number-lt10000000000000000 : goal.overflow_add-result-then-number-lt10000000000000000
overflow_add-result-then-number-lt10000000000000000 c = omega (arith, c.short_size-then-number-lt10000000000000000.ensures, short_number (c.args.number / 1_000_000_000_000) (omega (arith, c.ranges.number)))

pub returns-then-number-lt10000000000000000 : goal.returns-then-number-lt10000000000000000
returns-then-number-lt10000000000000000 c = omega (arith, c.short_size-then-number-lt10000000000000000.ensures, twelve_more c.args.number (omega (arith, c.if-number-lt1000000000000.false)) (omega (arith, c.ranges.number)))

pub overflow_add-result-else-number-lt10000000000000000 : goal.overflow_add-result-else-number-lt10000000000000000
overflow_add-result-else-number-lt10000000000000000 c = omega (arith, c.short_size-else-number-lt10000000000000000.ensures, short_number (c.args.number / 10_000_000_000_000_000) (omega (arith, c.ranges.number)))

pub returns-else-number-lt10000000000000000 : goal.returns-else-number-lt10000000000000000
returns-else-number-lt10000000000000000 c = omega (arith, c.short_size-else-number-lt10000000000000000.ensures, sixteen_more c.args.number (omega (arith, c.if-number-lt10000000000000000.false)) (omega (arith, c.ranges.number)))
