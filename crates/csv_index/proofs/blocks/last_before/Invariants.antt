-- The group is between the two ends, and no more places stand before the first of these.
use Rattle.std.proofs.Common.{◌≤◌, ◌<◌, ◌-◌, length}
use Rattle.std.specs.List.{slice_index}
use Rattle.csv_index.proofs.blocks.last_before.Given as goal

abbrev pub invariant-loop-high : goal.invariant-loop-high
invariant-loop-high l = record {
  between : l.low < l.high;
  within : l.high ≤ length l.before;
  before : slice_index l.before l.low ≤ l.n;
}

abbrev pub decreases-loop-high : goal.decreases-loop-high
decreases-loop-high l = l.high - l.low
