use Rattle.std.proofs.Common.{◌≡◌, replicate, None}
use Rattle.odata_hub.proofs.hub.Hub.new.Given as goal

-- each place so far is free
abbrev pub invariant-loop-place : goal.invariant-loop-place
invariant-loop-place l = l.free.items ≡ replicate l._place None
