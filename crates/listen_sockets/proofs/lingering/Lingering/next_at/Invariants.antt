use Rattle.std.proofs.Common.{ℕ, ◌<◌, ◌≤◌, length}
use Rattle.listen_sockets.specs.Lingering.{held_at, seconds_left}
use Rattle.listen_sockets.proofs.lingering.Lingering.next_at.Given as goal

-- the time of none so far is over before that of the one at the place
abbrev pub invariant-loop-next : goal.invariant-loop-next
invariant-loop-next l = record {
  within : 0 < length l.self.held.items → l.at < length l.self.held.items;
  first : (k : ℕ) → k < l.next → seconds_left (held_at l.self.held.items l.at) ≤ seconds_left (held_at l.self.held.items k);
}
