use Rattle.cell_types.proofs.BetweenLemmas.{together}
use Rattle.cell_types.proofs.ValueLemmas.{null-first, value_cmp-Equal, value_eq-Decides, values_total}
use Rattle.cell_types.proofs.laws.values_are_ordered.Goals as goal

pub returns : goal.returns
returns c = record { equal = value_eq-Decides; total = values_total; same = value_cmp-Equal; null_first = null-first; together = together }
