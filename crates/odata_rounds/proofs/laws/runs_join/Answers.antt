use Rattle.odata_rounds.proofs.RunLemmas.{run_joins}
use Rattle.odata_rounds.proofs.laws.runs_join.Goals as goal

pub returns : goal.returns
returns c = run_joins
