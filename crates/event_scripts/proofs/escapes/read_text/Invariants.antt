use Rattle.std.proofs.Common.{length}
use Rattle.event_scripts.proofs.TextLemmas.{IsReadTo}
use Rattle.event_scripts.proofs.escapes.read_text.Given as goal

abbrev pub invariant-loop-rest : goal.invariant-loop-rest
invariant-loop-rest l = IsReadTo l.text l.bytes.items l.rest

abbrev pub decreases-loop-rest : goal.decreases-loop-rest
decreases-loop-rest l = length l.rest
