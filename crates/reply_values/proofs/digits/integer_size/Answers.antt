use Rattle.std.proofs.Common.{◌≤◌, length, arith}
use Rattle.std.specs.Fmt.{decimal}
use Rattle.reply_values.proofs.DigitLemmas.{short_number}
use Rattle.reply_values.proofs.digits.integer_size.Goals as goal

pub overflow_add-result : goal.overflow_add-result
overflow_add-result c =
    let few : length (decimal c.unsigned_abs.result) ≤ 20 = short_number c.unsigned_abs.result (omega (arith, c.unsigned_abs.ensures.bound)) in
    first_of (omega (arith, few, c.number_size.ensures, c.from.ensures), grind (arith, few, c.number_size.ensures, c.from.ensures))
