use Rattle.std.proofs.Common.{◌≡◌, replicate}
use Rattle.listen_sockets.specs.Sockets.{free_wire}
use Rattle.listen_sockets.proofs.sockets.Sockets.new.Given as goal

-- a place without a socket was made for each so far
abbrev pub invariant-loop-place : goal.invariant-loop-place
invariant-loop-place l = l.wires.items ≡ replicate l._place free_wire
