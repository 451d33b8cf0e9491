use Rattle.std.specs.Prelude.{◌≡◌}
use Rattle.listen_sockets.specs.Peer.{before_try}
use Rattle.listen_sockets.specs.Sockets.{KeepsStreams, SocketsStay, with_peer}
use Rattle.listen_sockets.proofs.PlaceLemmas.{first_changed}
use Rattle.listen_sockets.proofs.sockets.Sockets.try_writes.Given as goal

-- the sockets so far are tried; no stream ended, and none that had ended goes on; and each socket stays
abbrev pub invariant-loop-place : goal.invariant-loop-place
invariant-loop-place l = record {
  tried : l.self.wires.items ≡ first_changed (with_peer before_try) l.place l.fn.self.wires.items;
  streams : KeepsStreams l.fn.self.wires.items l.self.wires.items;
  stay : SocketsStay l.fn.self.wires.items l.self.wires.items;
}
