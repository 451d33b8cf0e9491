-- The items left decide.
use Rattle.std.proofs.Common.{◌≡◌, drop}
use Rattle.std.specs.Ordering.{int_cmp}
use Rattle.row_eval.specs.Comparison.{is_among}
use Rattle.row_eval.proofs.comparison.number_among.Given as goal

abbrev pub invariant-loop-item : goal.invariant-loop-item
invariant-loop-item l = is_among int_cmp l.fn.value l.items ≡ is_among int_cmp l.fn.value (drop l.item-index l.items)
