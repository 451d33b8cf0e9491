use Rattle.query_meaning.proofs.ComputedLemmas.{sums_add_up}
use Rattle.query_meaning.proofs.law.sums_add_up.Goals as goal

pub returns : goal.returns
returns c = sums_add_up
