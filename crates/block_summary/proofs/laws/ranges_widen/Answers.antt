use Rattle.block_summary.proofs.WidenLemmas.{widens}
use Rattle.block_summary.proofs.laws.ranges_widen.Goals as goal

pub returns : goal.returns
returns c = widens c.values_are_ordered.ensures
