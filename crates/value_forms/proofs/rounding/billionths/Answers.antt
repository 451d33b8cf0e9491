use Rattle.std.proofs.Common.{◌≤◌, length, arith}
use Rattle.cell_types.proofs.DigitLaws.{AllDigits-take}
use Rattle.value_forms.proofs.RoundingLemmas.{short_fits}
use Rattle.value_forms.proofs.rounding.billionths.Goals as goal

pub number_of-requires-clause-fits : goal.number_of-requires-clause-fits
number_of-requires-clause-fits c =
    let short : length c.split_at.result.0.now ≤ 9 = grind (arith) in
    omega (arith, short_fits c.split_at.result.0.now (rw c.split_at.ensures.front (AllDigits-take c.min.result c.args.tail.now c.requires)) short)
