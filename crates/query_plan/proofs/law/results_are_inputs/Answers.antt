use Rattle.query_plan.proofs.ResultLemmas.{result_input}
use Rattle.query_plan.proofs.law.results_are_inputs.Goals as goal

pub returns : goal.returns
returns c = result_input
