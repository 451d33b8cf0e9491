use Rattle.std.proofs.Common.{◌/◌, ◌%◌, arith}
use Rattle.reply_values.proofs.DigitLemmas.{short_fraction, short_number}
use Rattle.reply_values.proofs.digits.millionths_size.Goals as goal

pub overflow_add-result : goal.overflow_add-result
overflow_add-result c =
    omega (arith, c.number_size.ensures, c.fraction_size.ensures, short_number (c.in-Ok.short / 1_000_000) (omega (arith, c.in-Ok.ensures, c.in-Ok.is, c.ranges.number)), short_fraction (c.in-Ok.short % 1_000_000))
