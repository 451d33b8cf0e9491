use Rattle.block_summary.proofs.SkipLemmas.{skips}
use Rattle.block_summary.proofs.laws.skips_nothing.Goals as goal

pub returns : goal.returns
returns c = skips c.values_are_ordered.ensures
