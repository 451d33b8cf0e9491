use Rattle.std.proofs.Common.{take}
use Rattle.block_summary.specs.Ranges.{column_of, IsRangeOf}
use Rattle.block_summary.specs.Rows.{row_views}
use Rattle.block_summary.proofs.summary.column_range.Given as goal

abbrev pub invariant-loop-row : goal.invariant-loop-row
invariant-loop-row l = IsRangeOf l.range (column_of (row_views (take l.row-index l.rows)) l.col)
