use Rattle.row_eval.proofs.FaultLemmas.{has_value, truth_has_value}
use Rattle.row_eval.proofs.law.faults_are_foreseen.Goals as goal

pub returns : goal.returns
returns c = record { expressions = has_value; conditions = truth_has_value }
