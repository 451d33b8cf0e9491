use Rattle.event_scripts.proofs.NumberLemmas.{IsReadTo}
use Rattle.event_scripts.proofs.number.read_number.Given as goal

abbrev pub invariant-loop-digit : goal.invariant-loop-digit
invariant-loop-digit l = IsReadTo l.text l.number l.digit-index
