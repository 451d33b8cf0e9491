use Rattle.std.proofs.Common.{arith}
use Rattle.std.proofs.lemmas.Int.{ints}
use Rattle.cell_types.proofs.kind.day_value.Goals as goal

pub returns : goal.returns
returns c = c.day_at.ensures c.args.number (omega (arith, ints))
