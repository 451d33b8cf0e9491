use Rattle.odata_hub.proofs.StreamLemmas.{joins_under}
use Rattle.odata_hub.proofs.laws.joins.Goals as goal

pub returns : goal.returns
returns c = joins_under c.cuts_join.ensures
