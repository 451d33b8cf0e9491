use Rattle.block_summary.proofs.OneRangeLemmas.{one_range}
use Rattle.block_summary.proofs.laws.one_range.Goals as goal

pub returns : goal.returns
returns c = one_range c.ranges_widen.ensures c.values_are_ordered.ensures
