use Rattle.block_summary.proofs.TotalLemmas.{IsTotalTo}
use Rattle.block_summary.proofs.lanes.total_of.Given as goal

abbrev pub invariant-loop-i : goal.invariant-loop-i
invariant-loop-i l = IsTotalTo l.i l.sum l.nulls l.values
