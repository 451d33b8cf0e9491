use Rattle.cell_types.specs.Value.{value_cmp}
use Rattle.cell_types.proofs.CodePoints.{texts-cmp}
use Rattle.cell_types.proofs.laws.texts_are_in_order.Goals as goal

pub returns : goal.returns
unfolding value_cmp
returns c = texts-cmp
