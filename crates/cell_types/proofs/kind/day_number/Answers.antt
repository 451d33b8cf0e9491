use Rattle.std.proofs.Common.{arith}
use Rattle.std.proofs.lemmas.Int.{ints}
use Rattle.cell_types.proofs.kind.day_number.Goals as goal

pub returns-clause-value : goal.returns-clause-value
returns-clause-value c = omega (arith, ints)

pub returns-clause-stands : goal.returns-clause-stands
returns-clause-stands c =
    let date = c.args.date in
    (date.year, date.month, date.day, (date.year_in, (omega (arith, ints), omega (arith, ints)), (omega (arith, ints), omega (arith, ints))), returns-clause-value c)
