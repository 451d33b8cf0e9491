use Rattle.std.proofs.Common.{◌≡◌, ◌+◌, length, arith}
use Rattle.row_codes.specs.Codes.{number_of_code}
use Rattle.row_codes.proofs.codes.number_codes.Goals as goal

pub returns : goal.returns
returns c =
    let span = c.in-Some.span in
    let all : length c.args.numbers.now ≡ c.loop-i.i = omega (arith, c.loop-i-test.false, c.loop-i.auto.i-end, c.len-i-end.ensures) in
    record {
      are = record {
        below = λ i h. let below = c.loop-i.invariant.below i (omega (arith, h, all)) in omega (arith, below, c.from-count.ensures);
        long = omega (arith, c.loop-i.invariant.long, all);
        few = omega (arith, c.in-Some.ensures.few, c.from-count.ensures);
      };
      number_of = number_of_code span.least (span.last + 1);
      each = λ i h. c.loop-i.invariant.each i (omega (arith, h, all));
    }
