-- The items left decide.
use Rattle.std.proofs.Common.{◌≡◌, map, drop}
use Rattle.std.specs.Prelude.{option_map}
use Rattle.std.specs.Cmp.Lexicographic.{slice_cmp}
use Rattle.std.specs.Ordering.{nat_cmp}
use Rattle.typed_trees.specs.TypedTree.{optional_text}
use Rattle.row_eval.specs.Comparison.{is_among}
use Rattle.text_kernels.proofs.question.is_item.Given as goal

abbrev pub invariant-loop-item : goal.invariant-loop-item
invariant-loop-item l = is_among (slice_cmp nat_cmp) (option_map (λ t. t.now) l.fn.text) (map optional_text l.items) ≡ is_among (slice_cmp nat_cmp) (option_map (λ t. t.now) l.fn.text) (map optional_text (drop l.item-index l.items))
