use Rattle.std.proofs.Common.{◌≡◌, None, false, take}
use Rattle.std.specs.Ordering.{int_cmp}
use Rattle.row_eval.specs.Comparison.{is_among}
use Rattle.block_eval.proofs.items.has_null.Given as goal

abbrev pub invariant-loop-item : goal.invariant-loop-item
invariant-loop-item l = is_among int_cmp None (take l.item-index l.items) ≡ false
