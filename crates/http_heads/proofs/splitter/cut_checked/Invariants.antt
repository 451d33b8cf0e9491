use Rattle.std.proofs.Common.{◌-◌, ◌≤◌, length, drop}
use Rattle.http_heads.proofs.CutLemmas.{StandBefore}
use Rattle.http_heads.proofs.splitter.cut_checked.Given as goal

-- the heads so far stand before this place, and none of them closes
abbrev pub invariant-loop-heads : goal.invariant-loop-heads
invariant-loop-heads l = record {
  within : l.at ≤ length l.bytes;
  before : StandBefore l.bytes l.heads.items (drop l.at l.bytes);
}

abbrev pub decreases-loop-heads : goal.decreases-loop-heads
decreases-loop-heads l = length l.bytes - l.at
