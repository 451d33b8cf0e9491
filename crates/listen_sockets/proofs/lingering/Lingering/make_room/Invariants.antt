use Rattle.std.proofs.Common.{◌≡◌, ℕ, length}
use Rattle.listen_sockets.specs.Lingering.{held_at}
use Rattle.listen_sockets.proofs.LingeringLemmas.{Stays}
use Rattle.listen_sockets.proofs.lingering.Lingering.make_room.Given as goal

-- each that was held is held as it was, or let go
abbrev pub invariant-loop-at : goal.invariant-loop-at
invariant-loop-at l = record {
  count : length l.self.held.items ≡ length l.fn.self.held.items;
  each : (k : ℕ) → Stays (held_at l.fn.self.held.items k) (held_at l.self.held.items k);
}
