use Rattle.std.proofs.Common.{rules}
use Rattle.odata_serve.proofs.QueryLemmas.{query_by_answer}
use Rattle.odata_serve.proofs.program.query.Goals as goal

pub returns : goal.returns
returns g c = query_by_answer _ _ _ _ _ _ _ (search rules) c.answer.ensures
