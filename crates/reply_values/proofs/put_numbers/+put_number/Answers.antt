-- The digits before the last four, and these.
use Rattle.std.proofs.Common.{◌++◌, length, take, sym, ap, ◌∙◌, arith, append_assoc}
use Rattle.itoa.proofs.Decimal.{length_four}
use Rattle.reply_values.proofs.DigitLemmas.{digits_more}
use Rattle.reply_values.proofs.put_numbers.+put_number.Goals as goal

pub put_number-end-requires : goal.put_number-end-requires
put_number-end-requires t c =
    omega (arith, c.requires, length_four c.args.number (omega (arith, c.if-number-lt10000.false)) (omega (arith, c.ranges.number)))

pub put_block-requires-clause-room : goal.put_block-requires-clause-room
put_block-requires-clause-room t c =
    omega (arith, c.requires, length_four c.args.number (omega (arith, c.if-number-lt10000.false)) (omega (arith, c.ranges.number)), c.put_number-end.ensures.long, c.put_number-end.ensures.end)

pub returns : goal.returns
returns t c =
    let front = take c.args.at c.args.out.now in
    let long = length_four c.args.number (omega (arith, c.if-number-lt10000.false)) (omega (arith, c.ranges.number)) in
    record {
      long = omega (arith, c.put_number-end.ensures.long, c.put_block.ensures.long);
      bytes =
          rw (c.put_number-end.ensures.bytes, c.four_digits.ensures) at c.put_block.ensures.bytes ∙ append_assoc front _ _
          ∙ ap (λ xs. front ++ xs) (sym (digits_more c.args.number (omega (arith, c.if-number-lt10000.false)) (omega (arith, c.ranges.number))));
      end = omega (arith, long, ap (λ ds. length (take 4 ds)) c.four_digits.ensures, c.put_number-end.ensures.end, c.put_block.ensures.end);
    }
