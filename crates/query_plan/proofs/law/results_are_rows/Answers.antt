use Rattle.query_plan.proofs.QueryLemmas.{result_rows}
use Rattle.query_plan.proofs.law.results_are_rows.Goals as goal

pub returns : goal.returns
returns c = result_rows
