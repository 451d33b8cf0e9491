use Rattle.odata_request.proofs.AloneLemmas.{keys_alone}
use Rattle.odata_request.proofs.laws.keys_stand_alone.Goals as goal

pub returns : goal.returns
returns c = keys_alone
