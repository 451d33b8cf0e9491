use Rattle.block_filter.proofs.LaneLemmas.{AreTextsTo}
use Rattle.block_filter.proofs.columns.block_texts.Given as goal

-- the columns of texts so far
abbrev pub invariant-loop-col : goal.invariant-loop-col
invariant-loop-col l = AreTextsTo l.block.rows l.texts.items l.col
