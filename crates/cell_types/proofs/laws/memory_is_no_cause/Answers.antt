use Rattle.cell_types.proofs.CellLemmas.{value_of-memory}
use Rattle.cell_types.proofs.laws.memory_is_no_cause.Goals as goal

pub returns : goal.returns
returns c = value_of-memory
