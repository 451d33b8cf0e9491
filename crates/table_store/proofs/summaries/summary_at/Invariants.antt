use Rattle.std.proofs.Common.{◌≡◌, ◌<◌, ℕ, get_or, length}
use Rattle.block_summary.specs.Ranges.{no_range, IsRangeOf}
use Rattle.table_store.proofs.SummaryLemmas.{block_cells}
use Rattle.table_store.proofs.summaries.summary_at.Given as goal

-- there is a range for each column so far
abbrev pub invariant-loop-column : goal.invariant-loop-column
invariant-loop-column l = record {
  count : length l.ranges.items ≡ l.column-index;
  each : (col : ℕ) → col < l.column-index → IsRangeOf (get_or l.ranges.items col no_range) (block_cells l.columns l.number col);
}
