use Rattle.event_scripts.proofs.NumberLemmas.{grown, no_digit, read_more}
use Rattle.event_scripts.proofs.number.read_number.Goals as goal

pub returns-then-not-is_ascii_digit : goal.returns-then-not-is_ascii_digit
returns-then-not-is_ascii_digit c =
    no_digit c.args.text.now c.loop-digit.digit-index c.loop-digit-test.true c.if-not-is_ascii_digit.ensures.cases

pub returns-then-number-gt-MOST_NUMBER : goal.returns-then-number-gt-MOST_NUMBER
returns-then-number-gt-MOST_NUMBER c =
    grown c.args.text.now c.loop-digit.number c.loop-digit.digit-index c.loop-digit.invariant c.loop-digit-test.true
    c.if-not-is_ascii_digit.ensures.cases (rw c.from.ensures at c.if-number-gt-MOST_NUMBER.true)

pub loop-digit-preserved : goal.loop-digit-preserved
loop-digit-preserved c =
    rw c.from.ensures (read_more c.args.text.now c.loop-digit.number c.loop-digit.digit-index c.loop-digit.invariant c.loop-digit-test.true
    c.if-not-is_ascii_digit.ensures.cases (rw c.from.ensures at c.if-number-gt-MOST_NUMBER.false))
