use Rattle.std.proofs.Common.{take}
use Rattle.block_eval.specs.Items.{HaveNearItems}
use Rattle.block_eval.proofs.items.near_items.Given as goal

abbrev pub invariant-loop-item : goal.invariant-loop-item
invariant-loop-item l = HaveNearItems l.known (take l.item-index l.items) l.numbers.items
