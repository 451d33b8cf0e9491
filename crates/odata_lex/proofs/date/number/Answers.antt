use Rattle.std.proofs.Common.{arith}
use Rattle.std.proofs.lemmas.Str.Parse.{digit_at}
use Rattle.odata_lex.proofs.Digits.{value_more, value_small}
use Rattle.odata_lex.proofs.date.number.Goals as goal

pub overflow_mul-value : goal.overflow_mul-value
overflow_mul-value c = let small = value_small c.args.digits.now c.loop-b.b-index c.requires.digits (omega arith) in omega (arith, small, c.loop-b.invariant)

pub overflow_sub-b : goal.overflow_sub-b
overflow_sub-b c = (digit_at c.args.digits.now c.loop-b.b-index c.requires.digits (omega arith)).0

pub overflow_add-value : goal.overflow_add-value
overflow_add-value c =
    let small = value_small c.args.digits.now c.loop-b.b-index c.requires.digits (omega arith) in
    let digit = digit_at c.args.digits.now c.loop-b.b-index c.requires.digits (omega arith) in
    omega (arith, small, digit, c.loop-b.invariant)

pub loop-b-preserved : goal.loop-b-preserved
loop-b-preserved c =
    let more = value_more c.args.digits.now c.loop-b.b-index c.requires.digits (omega arith) in cc (more, c.from.ensures, c.loop-b.invariant)
