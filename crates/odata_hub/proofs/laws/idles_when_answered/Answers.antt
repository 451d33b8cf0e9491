use Rattle.odata_hub.proofs.LawLemmas.{idles_when_answered}
use Rattle.odata_hub.proofs.laws.idles_when_answered.Goals as goal

pub returns : goal.returns
returns c = idles_when_answered c.one_cut.ensures c.cuts_join.ensures
