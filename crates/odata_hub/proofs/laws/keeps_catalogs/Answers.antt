use Rattle.odata_hub.proofs.LawLemmas.{keeps_catalogs}
use Rattle.odata_hub.proofs.laws.keeps_catalogs.Goals as goal

pub returns : goal.returns
returns c = keeps_catalogs c.one_cut.ensures c.cuts_join.ensures
