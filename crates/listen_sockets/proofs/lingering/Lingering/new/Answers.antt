use Rattle.listen_sockets.proofs.LingeringLemmas.{new-in_time}
use Rattle.listen_sockets.proofs.lingering.Lingering.new.Goals as goal

pub invariant_of-result : goal.invariant_of-result
invariant_of-result c = record { in_time = new-in_time c.loop-place.held.items c.loop-place._place c.loop-place.invariant }
