-- The items left decide.
use Rattle.std.proofs.Common.{◌≡◌, drop}
use Rattle.std.specs.Ordering.{bool_cmp}
use Rattle.row_eval.specs.Comparison.{is_among}
use Rattle.row_eval.proofs.comparison.boolean_among.Given as goal

abbrev pub invariant-loop-item : goal.invariant-loop-item
invariant-loop-item l = is_among bool_cmp l.fn.value l.items ≡ is_among bool_cmp l.fn.value (drop l.item-index l.items)
