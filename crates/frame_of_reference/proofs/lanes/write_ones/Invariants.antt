use Rattle.frame_of_reference.proofs.LaneLemmas.{AreOffsetsTo}
use Rattle.frame_of_reference.proofs.lanes.write_ones.Given as goal

abbrev pub invariant-loop-i : goal.invariant-loop-i
invariant-loop-i l = AreOffsetsTo l.i l.least l.greatest l.nulls l.values l.out
