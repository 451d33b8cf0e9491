use Rattle.typed_trees.specs.TypedTree.{truth_view}
use Rattle.block_filter.proofs.RowLemmas.{AreNarrowed}
use Rattle.block_filter.proofs.rows.narrow_by_rows.Given as goal

-- the first rows were gone through
abbrev pub invariant-loop-row : goal.invariant-loop-row
invariant-loop-row l = AreNarrowed (truth_view l.condition) l.block.rows l.fn.wanted l.wanted l.row l.faulted
