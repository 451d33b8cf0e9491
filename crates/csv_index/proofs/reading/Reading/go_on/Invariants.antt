-- The blocks so far are read.
use Rattle.std.proofs.Common.{length}
use Rattle.csv_index.proofs.ReadingLemmas.{IsUnderWay}
use Rattle.csv_index.proofs.reading.Reading.go_on.Given as goal

abbrev pub invariant-loop-rest : goal.invariant-loop-rest
invariant-loop-rest l = IsUnderWay l.text l.rest l.reading

abbrev pub decreases-loop-rest : goal.decreases-loop-rest
decreases-loop-rest l = length l.rest
