use Rattle.std.proofs.Common.{◌-◌, ◌≤◌, length, map, drop}
use Rattle.http_heads.specs.Head.{BeginsWithAll, head_view}
use Rattle.http_heads.proofs.head.cut_heads.Given as goal

-- the heads so far stand before this place
abbrev pub invariant-loop-heads : goal.invariant-loop-heads
invariant-loop-heads l = record {
  within : l.at ≤ length l.bytes;
  begins : BeginsWithAll l.bytes (map head_view l.heads.items) (drop l.at l.bytes);
}

abbrev pub decreases-loop-heads : goal.decreases-loop-heads
decreases-loop-heads l = length l.bytes - l.at
