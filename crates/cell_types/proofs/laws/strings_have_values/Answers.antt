use Rattle.cell_types.proofs.CellLemmas.{string_value}
use Rattle.cell_types.proofs.laws.strings_have_values.Goals as goal

pub returns : goal.returns
returns c = string_value
