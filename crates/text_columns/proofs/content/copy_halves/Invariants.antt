use Rattle.std.proofs.Common.{◌-◌, length}
use Rattle.text_columns.proofs.ContentLemmas.{AreHalved}
use Rattle.text_columns.proofs.content.copy_halves.Given as goal

abbrev pub invariant-loop-read : goal.invariant-loop-read
invariant-loop-read l = AreHalved l.piece l.fn.out l.at l.out l.read l.end

abbrev pub decreases-loop-read : goal.decreases-loop-read
decreases-loop-read l = length l.piece - l.read
