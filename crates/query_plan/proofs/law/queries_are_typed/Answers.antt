use Rattle.query_plan.proofs.TypedQueryLemmas.{queries_typed}
use Rattle.query_plan.proofs.law.queries_are_typed.Goals as goal

pub returns : goal.returns
returns c = λ schema q typed. queries_typed schema q typed.0 typed.2
