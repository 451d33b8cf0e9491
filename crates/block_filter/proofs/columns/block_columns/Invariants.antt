use Rattle.block_filter.proofs.LaneLemmas.{AreFirstColumns}
use Rattle.block_filter.proofs.columns.block_columns.Given as goal

-- the columns so far
abbrev pub invariant-loop-col : goal.invariant-loop-col
invariant-loop-col l = AreFirstColumns l.block.rows l.columns.items l.col
