use Rattle.block_summary.proofs.SkipLemmas.{skips-rows}
use Rattle.block_summary.proofs.laws.skips_no_row.Goals as goal

pub returns : goal.returns
returns c = skips-rows c.values_are_ordered.ensures
