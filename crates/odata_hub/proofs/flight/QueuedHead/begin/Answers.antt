use Rattle.odata_hub.proofs.FlightLemmas.{begins}
use Rattle.odata_hub.proofs.flight.QueuedHead.begin.Goals as goal

pub invariant_of-result : goal.invariant_of-result
invariant_of-result c = begins _ _ _ (rw c.deref.ensures at c.in_ok-exchange.ensures)
