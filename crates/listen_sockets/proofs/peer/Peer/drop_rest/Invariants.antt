use Rattle.std.specs.Prelude.{◌≡◌}
use Rattle.listen_sockets.proofs.peer.Peer.drop_rest.Given as goal

-- the same is known of it
abbrev pub invariant-loop : goal.invariant-loop
invariant-loop l = l.self ≡ l.fn.self
