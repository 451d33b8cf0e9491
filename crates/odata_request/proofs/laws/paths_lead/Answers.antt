use Rattle.odata_request.proofs.WayLemmas.{paths_lead}
use Rattle.odata_request.proofs.laws.paths_lead.Goals as goal

pub returns : goal.returns
returns c = paths_lead
