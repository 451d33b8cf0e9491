use Rattle.block_summary.proofs.BoundLemmas.{AreBoundsTo}
use Rattle.block_summary.proofs.lanes.bounds_of.Given as goal

abbrev pub invariant-loop-i : goal.invariant-loop-i
invariant-loop-i l = AreBoundsTo l.i l.least l.greatest l.nulls l.values
