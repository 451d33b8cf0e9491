use Rattle.block_summary.proofs.JoinLemmas.{joins}
use Rattle.block_summary.proofs.laws.ranges_join.Goals as goal

pub returns : goal.returns
returns c = joins c.values_are_ordered.ensures
