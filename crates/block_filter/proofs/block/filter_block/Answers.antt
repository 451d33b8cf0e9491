use Rattle.std.proofs.Common.{◌∙◌, ap, length, map, refl, sym}
use Rattle.typed_trees.specs.TypedTree.{boxed_truth}
use Rattle.row_selection.specs.Marks.{marked_numbers}
use Rattle.block_filter.proofs.FirstLemmas.{first_marked}
use Rattle.block_filter.proofs.PassingLemmas.{numbers_count}
use Rattle.block_filter.proofs.block.filter_block.Goals as goal

pub returns : goal.returns
returns c =
    let rows = c.args.block.now.rows in
    first_marked (map boxed_truth c.args.conditions.now) rows c.args.most c.limit_of-limit.result c.in_ok-wanted.field-0 _ c.in_ok-wanted.ensures
    (rw c.rows.ensures at c.limit_of-limit.ensures)
    (rw c.deref-2.ensures.value at c.in_ok-rows.ensures.rows)
    (rw c.deref-2.ensures.value at c.in_ok-rows.ensures.within)
    (rw c.deref.ensures.value at c.count_of-count.ensures) refl

pub of_marks-requires-clause-count : goal.of_marks-requires-clause-count
of_marks-requires-clause-count c =
    (rw c.deref.ensures.value at c.count_of-count.ensures) ∙ sym (numbers_count c.in_ok-wanted.field-0.wanted.items) ∙ ap (λ ms. length (marked_numbers 0 ms)) (sym c.deref-2.ensures.value)
