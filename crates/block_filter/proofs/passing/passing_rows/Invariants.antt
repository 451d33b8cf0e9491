use Rattle.std.proofs.Common.{◌≡◌, drop, length, map}
use Rattle.typed_trees.specs.TypedTree.{boxed_truth}
use Rattle.block_filter.proofs.NarrowLemmas.{AreLeftTo}
use Rattle.block_filter.proofs.passing.passing_rows.Given as goal

-- the conditions that are left make of the rows that are wanted what all make of all rows
abbrev pub invariant-loop-condition : goal.invariant-loop-condition
invariant-loop-condition l = record {
  long : length l.wanted.items ≡ length l.block.rows;
  left : AreLeftTo (map boxed_truth l.conditions) (map boxed_truth (drop l.condition-index l.conditions)) l.block.rows l.wanted.items l.faulted;
}
