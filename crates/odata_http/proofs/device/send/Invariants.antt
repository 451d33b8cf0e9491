use Rattle.std.proofs.Common.{◌≡◌, length, ◌-◌, ◌≤◌, take}
use Rattle.std.specs.Io.KnownBytes.{Appends}
use Rattle.odata_http.proofs.device.send.Given as goal

-- the front of the piece was taken, and no write failed
abbrev pub invariant-loop-at : goal.invariant-loop-at
invariant-loop-at g l = record {
  within : l.at ≤ length l.bytes;
  taken : Appends (g.W.Sink.sink l.fn.out).taken (g.W.Sink.sink l.out).taken (take l.at l.bytes);
  failed : (g.W.Sink.sink l.out).failed_writes ≡ (g.W.Sink.sink l.fn.out).failed_writes;
}

abbrev pub decreases-loop-at : goal.decreases-loop-at
decreases-loop-at g l = length l.bytes - l.at
