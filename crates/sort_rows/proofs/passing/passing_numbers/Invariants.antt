use Rattle.std.proofs.Common.{take}
use Rattle.typed_trees.specs.TypedTree.{truth_view}
use Rattle.query_meaning.specs.Filter.{passing}
use Rattle.sort_rows.specs.Numbers.{GivesRows}
use Rattle.sort_rows.proofs.passing.passing_numbers.Given as goal

abbrev pub invariant-loop-number : goal.invariant-loop-number
invariant-loop-number l = GivesRows (passing (truth_view l.condition)) l.columns.rows (take l.number-index l.numbers) l.passing.items
