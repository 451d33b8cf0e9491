use Rattle.odata_hub.proofs.StreamLemmas.{one_under}
use Rattle.odata_hub.proofs.laws.one_reading.Goals as goal

pub returns : goal.returns
returns c = one_under c.one_cut.ensures
