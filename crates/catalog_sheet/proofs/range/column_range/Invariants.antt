use Rattle.std.proofs.Common.{◌*◌, take}
use Rattle.block_summary.specs.declared.block.TheConstants.{BLOCK_ROWS}
use Rattle.block_summary.specs.Ranges.{column_of, IsRangeOf}
use Rattle.catalog_sheet.proofs.range.column_range.Given as goal

-- the range is that of the rows of the blocks so far
abbrev pub invariant-loop-summary : goal.invariant-loop-summary
invariant-loop-summary l = IsRangeOf l.range (column_of (take (l.summary-index * BLOCK_ROWS) l.table.rows) l.col)
