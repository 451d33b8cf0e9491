use Rattle.query_plan.proofs.QueryLemmas.{queries_fit}
use Rattle.query_plan.proofs.law.queries_fit.Goals as goal

pub returns : goal.returns
returns c = λ schema q typed. queries_fit c.bounds_hold.ensures c.tables_are_inputs.ensures schema q typed.0 typed.1 typed.2
