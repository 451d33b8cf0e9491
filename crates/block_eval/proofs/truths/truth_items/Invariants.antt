use Rattle.std.proofs.Common.{◌≡◌, map, take}
use Rattle.std.specs.Prelude.{option_map}
use Rattle.cell_types.specs.Kind.{number_of_truth}
use Rattle.block_eval.proofs.truths.truth_items.Given as goal

abbrev pub invariant-loop-item : goal.invariant-loop-item
invariant-loop-item l = l.numbers.items ≡ map (option_map number_of_truth) (take l.item-index l.items)
