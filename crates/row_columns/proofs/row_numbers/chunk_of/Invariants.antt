-- The chunk is between the two ends, whose counts are on both sides.
use Rattle.std.proofs.Common.{◌≤◌, ◌<◌, ◌-◌, get_or, length}
use Rattle.row_columns.specs.Chunks.{no_chunk}
use Rattle.row_columns.proofs.row_numbers.chunk_of.Given as goal

abbrev pub invariant-loop-high : goal.invariant-loop-high
invariant-loop-high l = record {
  between : l.low < l.high;
  within : l.high ≤ length l.chunks;
  before : (get_or l.chunks l.low no_chunk).before ≤ l.place;
  next : l.high < length l.chunks → l.place < (get_or l.chunks l.high no_chunk).before;
}

abbrev pub decreases-loop-high : goal.decreases-loop-high
decreases-loop-high l = l.high - l.low
