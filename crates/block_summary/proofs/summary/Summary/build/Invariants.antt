use Rattle.std.proofs.Common.{◌≡◌, ℕ, ◌<◌, length, get_or}
use Rattle.block_summary.specs.Ranges.{column_of, no_range, IsRangeOf}
use Rattle.block_summary.specs.Rows.{row_views}
use Rattle.block_summary.proofs.summary.Summary.build.Given as goal

abbrev pub invariant-loop-col : goal.invariant-loop-col
invariant-loop-col l =
    (length l.ranges.items ≡ l.col) × ((k : ℕ) → k < l.col → IsRangeOf (get_or l.ranges.items k no_range) (column_of (row_views l.rows) k))
