use Rattle.odata_hub.proofs.LawLemmas.{over_when_taken}
use Rattle.odata_hub.proofs.laws.over_when_taken.Goals as goal

pub returns : goal.returns
returns c = over_when_taken c.one_cut.ensures c.cuts_join.ensures
