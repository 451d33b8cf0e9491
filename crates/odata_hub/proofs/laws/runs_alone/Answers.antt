use Rattle.odata_hub.proofs.LawLemmas.{runs_alone}
use Rattle.odata_hub.proofs.laws.runs_alone.Goals as goal

pub returns : goal.returns
returns c = runs_alone
