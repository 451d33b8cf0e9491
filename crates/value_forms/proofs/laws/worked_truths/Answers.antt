use Rattle.std.proofs.Common.{refl}
use Rattle.value_forms.proofs.laws.worked_truths.Goals as goal

pub returns : goal.returns
returns c = record { of_true = refl; of_false = refl; other = refl }
