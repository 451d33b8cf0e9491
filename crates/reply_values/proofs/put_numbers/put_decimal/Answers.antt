-- The sign, and the number of millionths without it.
use Rattle.std.proofs.Common.{length, take, pos, ◌<ℤ◌, ◌≤ℤ◌, [], ◌∷◌, append_assoc, arith, rules, refl, ap, ◌∙◌}
use Rattle.std.proofs.lemmas.Int.{ints}
use Rattle.cell_types.specs.Decimal.{millionths_text}
use Rattle.reply_values.proofs.DecimalLemmas.{text-negative, text-other}
use Rattle.reply_values.proofs.put_numbers.put_decimal.Goals as goal

pub put_millionths-requires : goal.put_millionths-requires
put_millionths-requires c =
    let above : pos 0 ≤ℤ c.args.millionths = first_of (omega (arith, ints, c.if-millionths-ge0.true), grind (arith, ints, c.if-millionths-ge0.true), search rules) in
    omega (arith, c.requires, ap length (text-other c.args.millionths _ c.ranges.millionths above c.unsigned_abs.ensures.value))

pub returns-then-millionths-ge0 : goal.returns-then-millionths-ge0
returns-then-millionths-ge0 c =
    let above : pos 0 ≤ℤ c.args.millionths = first_of (omega (arith, ints, c.if-millionths-ge0.true), grind (arith, ints, c.if-millionths-ge0.true), search rules) in
    rw (text-other c.args.millionths _ c.ranges.millionths above c.unsigned_abs.ensures.value) c.put_millionths.ensures

pub put_byte-end-requires : goal.put_byte-end-requires
put_byte-end-requires c =
    let below : c.args.millionths <ℤ pos 0 = first_of (omega (arith, ints, c.if-millionths-ge0.false), grind (arith, ints, c.if-millionths-ge0.false), search rules) in
    omega (arith, c.requires, ap length (text-negative c.args.millionths _ c.ranges.millionths below refl))

pub put_millionths-requires-2 : goal.put_millionths-requires-2
put_millionths-requires-2 c =
    let below : c.args.millionths <ℤ pos 0 = first_of (omega (arith, ints, c.if-millionths-ge0.false), grind (arith, ints, c.if-millionths-ge0.false), search rules) in
    omega (arith, c.requires, ap length (text-negative c.args.millionths _ c.ranges.millionths below c.unsigned_abs-2.ensures.value), c.put_byte-end.ensures.end, c.put_byte-end.ensures.long)

pub returns : goal.returns
returns c =
    let below : c.args.millionths <ℤ pos 0 = first_of (omega (arith, ints, c.if-millionths-ge0.false), grind (arith, ints, c.if-millionths-ge0.false), search rules) in
    let front = take c.args.at c.args.out.now in
    rw (text-negative c.args.millionths _ c.ranges.millionths below c.unsigned_abs-2.ensures.value) (record {
      long = omega (arith, c.put_byte-end.ensures.long, c.put_millionths-2.ensures.long);
      bytes = rw c.put_byte-end.ensures.bytes at c.put_millionths-2.ensures.bytes ∙ append_assoc front (45 ∷ []) (millionths_text c.unsigned_abs-2.result);
      end = omega (arith, c.put_byte-end.ensures.end, c.put_millionths-2.ensures.end);
    })
