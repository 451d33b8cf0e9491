use Rattle.std.specs.Prelude.{length}
use Rattle.std.specs.Slice.Iter.{iter_rest}
use Rattle.mio.specs.Events.{items}
use Rattle.listen_sockets.specs.Sockets.{KeepsSockets}
use Rattle.listen_sockets.proofs.EventLemmas.{Leads, Tells}
use Rattle.listen_sockets.proofs.poller.mark.Given as goal

-- each socket stays at its place, and the events that are left decide what all make of the sockets, and whether one is the listener's
abbrev pub invariant-loop-event : goal.invariant-loop-event
invariant-loop-event l = record {
  sockets : KeepsSockets l.fn.sockets.wires.items l.sockets.wires.items;
  marks : Leads (iter_rest l.event-iterator) (items l.fn.events) l.fn.sockets.wires.items l.sockets.wires.items;
  listener : Tells (length l.fn.sockets.wires.items) (iter_rest l.event-iterator) (items l.fn.events) l.accepts;
}
