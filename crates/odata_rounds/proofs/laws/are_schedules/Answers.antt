use Rattle.odata_rounds.proofs.RunLemmas.{hub_run}
use Rattle.odata_rounds.proofs.laws.are_schedules.Goals as goal

pub returns : goal.returns
returns c = hub_run
