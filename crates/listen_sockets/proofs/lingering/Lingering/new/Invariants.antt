use Rattle.std.proofs.Common.{◌≡◌, None, replicate}
use Rattle.listen_sockets.proofs.lingering.Lingering.new.Given as goal

-- no place so far holds a socket
abbrev pub invariant-loop-place : goal.invariant-loop-place
invariant-loop-place l = l.held.items ≡ replicate l._place None
