use Rattle.std.proofs.Common.{refl}
use Rattle.odata_types.proofs.law.sizes.Goals as goal

pub returns : goal.returns
returns c = record { most = refl; column = refl; function = refl; millionths = refl }
