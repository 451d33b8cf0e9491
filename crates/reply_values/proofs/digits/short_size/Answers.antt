use Rattle.std.proofs.Common.{sym, arith}
use Rattle.itoa.proofs.Decimal.{length_one, length_two}
use Rattle.reply_values.proofs.DigitLemmas.{four_digits, three_digits}
use Rattle.reply_values.proofs.digits.short_size.Goals as goal

pub returns-then-number-lt10 : goal.returns-then-number-lt10
returns-then-number-lt10 c = sym (length_one c.args.number c.if-number-lt10.true)

pub returns-then-number-lt100 : goal.returns-then-number-lt100
returns-then-number-lt100 c = sym (length_two c.args.number (omega (arith, c.if-number-lt10.false)) c.if-number-lt100.true)

pub returns-then-number-lt1000 : goal.returns-then-number-lt1000
returns-then-number-lt1000 c = sym (three_digits c.args.number (omega (arith, c.if-number-lt100.false)) c.if-number-lt1000.true)

pub returns-else-number-lt1000 : goal.returns-else-number-lt1000
returns-else-number-lt1000 c = sym (four_digits c.args.number (omega (arith, c.if-number-lt1000.false)) c.requires)
