use Rattle.text_columns.proofs.BoundLemmas.{AreBoundsSoFar}
use Rattle.text_columns.proofs.bounds.bounds_of.Given as goal

abbrev pub invariant-loop-row : goal.invariant-loop-row
invariant-loop-row l = AreBoundsSoFar l.column l.least l.greatest l.null_count l.row
