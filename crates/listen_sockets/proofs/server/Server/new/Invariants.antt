use Rattle.std.proofs.Common.{◌≡◌, replicate}
use Rattle.odata_rounds.specs.Lives.{free_slot}
use Rattle.listen_sockets.proofs.server.Server.new.Given as goal

-- a free slot was made for each place so far
abbrev pub invariant-loop-place : goal.invariant-loop-place
invariant-loop-place l = l.slots.items ≡ replicate l._place free_slot
