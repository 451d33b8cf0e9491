use Rattle.cell_types.proofs.CellLemmas.{value_of-fits}
use Rattle.cell_types.proofs.laws.values_fit_columns.Goals as goal

pub returns : goal.returns
returns c = value_of-fits
