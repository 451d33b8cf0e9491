use Rattle.odata_rounds.proofs.WalkLemmas.{visit_leaves}
use Rattle.odata_rounds.proofs.laws.visit_leaves.Goals as goal

pub returns : goal.returns
returns c = visit_leaves
