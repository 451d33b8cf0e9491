use Rattle.std.proofs.Common.{◌≡◌, length}
use Rattle.table_store.specs.Summaries.{AreFirstRanges}
use Rattle.table_store.proofs.summaries.SummarizedRows.step.Given as goal

-- there is a summary for each block so far
abbrev pub invariant-loop-number : goal.invariant-loop-number
invariant-loop-number l = record {
  count : length l.summaries.items ≡ l.number;
  first : AreFirstRanges l.rows.columns.items l.summaries.items;
}
