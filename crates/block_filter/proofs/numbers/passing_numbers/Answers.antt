use Rattle.std.proofs.Common.{arith}
use Rattle.std.proofs.lemmas.List.{with_items_is}
use Rattle.typed_trees.specs.TypedTree.{truth_view}
use Rattle.block_filter.proofs.NarrowLemmas.{listed_pass}
use Rattle.block_filter.proofs.numbers.passing_numbers.Goals as goal

pub returns : goal.returns
returns c =
    let was = c.in_ok-wanted.wanted in
    let now = c.narrow_by.new.wanted in
    let whole = with_items_is was now (omega (arith, c.narrow_by.auto.wanted, c.as_mut_slice.ensures.len, was.ok.0)) in
    let narrows = rw c.as_mut_slice.ensures.value at c.in_ok-_faults.ensures in
    rw (
      c.as_slice-2.ensures.value,
      whole,
      listed_pass (truth_view c.args.condition.now) c.args.block.now.rows was.items now c.in_ok-_faults._faults c.args.numbers.now c.requires.within
          c.in_ok-wanted.ensures.marked narrows,
    ) at c.marked_numbers.ensures
