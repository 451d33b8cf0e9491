use Rattle.odata_hub.proofs.LawLemmas.{hopeless_ends}
use Rattle.odata_hub.proofs.laws.hopeless_ends.Goals as goal

pub returns : goal.returns
returns c = hopeless_ends c.one_cut.ensures c.cuts_join.ensures c.hopeless_rests.ensures
