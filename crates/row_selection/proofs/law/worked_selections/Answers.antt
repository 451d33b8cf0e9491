use Rattle.std.proofs.Common.{refl}
use Rattle.row_selection.proofs.law.worked_selections.Goals as goal

pub returns : goal.returns
returns c = record { none = refl; marks = refl; first = refl }
