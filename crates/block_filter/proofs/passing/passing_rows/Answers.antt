use Rattle.std.proofs.Common.{◌≡◌, ◌∙◌, [], ap, arith, drop, eqb-true, length, map, sym, true}
use Rattle.std.specs.Prelude.{count_by}
use Rattle.std.proofs.lemmas.List.{drop_all, length-replicate, nil_from_length, with_items_is}
use Rattle.typed_trees.specs.TypedTree.{boxed_truth}
use Rattle.block_filter.specs.Marks.{is_marked}
use Rattle.block_filter.proofs.NarrowLemmas.{all_done, all_left, next_condition, next_left, none_wanted}
use Rattle.block_filter.proofs.passing.passing_rows.Goals as goal

pub returns-then-is_empty : goal.returns-then-is_empty
returns-then-is_empty c =
    let rows = c.args.block.now.rows in
    let es = map boxed_truth c.args.conditions.now in
    let none : c.args.conditions.now ≡ [] =
    nil_from_length c.args.conditions.now (eqb-true (length c.args.conditions.now) 0 (sym c.is_empty.ensures ∙ c.if-is_empty.true)) in
    all_done es es rows _ (ap (map boxed_truth) none) (ap length c.requires.wanted ∙ length-replicate (length rows) true)
    (all_left es rows c.args.wanted.items c.requires.wanted c.requires.fits)

pub loop-condition-init : goal.loop-condition-init
loop-condition-init c =
    let rows = c.args.block.now.rows in
    record {
      long = ap length c.requires.wanted ∙ length-replicate (length rows) true;
      left = all_left (map boxed_truth c.args.conditions.now) rows c.args.wanted.items c.requires.wanted c.requires.fits;
    }

pub returns-then-count_of-eq0 : goal.returns-then-count_of-eq0
returns-then-count_of-eq0 c =
    let wanted = c.loop-condition.wanted.items in
    let none : count_by is_marked wanted ≡ 0 = (rw c.deref.ensures.value at (sym c.count_of.ensures)) ∙ c.if-count_of-eq0.true in
    none_wanted (map boxed_truth c.args.conditions.now) (map boxed_truth (drop c.loop-condition.condition-index c.args.conditions.now)) c.args.block.now.rows _ none
    c.loop-condition.invariant.long c.loop-condition.invariant.left

pub loop-condition-preserved : goal.loop-condition-preserved
loop-condition-preserved c =
    let was = c.loop-condition.wanted in
    let now = c.narrow_by.new.wanted in
    let next = next_condition c.args.conditions.now c.loop-condition.condition-index c.condition-item.result c.loop-condition-test.true c.condition-item.is in
    let whole = with_items_is was now (omega (arith, c.narrow_by.auto.wanted, c.as_mut_slice.ensures.len, was.ok.0)) in
    let same : length now ≡ length c.args.block.now.rows = omega (arith, c.narrow_by.auto.wanted, ap length c.as_mut_slice.ensures.value, c.loop-condition.invariant.long) in
    record {
      long = rw whole same;
      left = rw whole (next_left (map boxed_truth c.args.conditions.now) (boxed_truth c.condition-item.result) _ c.args.block.now.rows was.items now c.in_ok-faults.faults
          c.loop-condition.invariant.long same (rw (c.deref-in-loop-condition.ensures, c.as_mut_slice.ensures.value) at c.in_ok-faults.ensures) c.loop-condition.faulted
          (rw next at c.loop-condition.invariant.left));
    }

pub returns : goal.returns
returns c =
    let conditions = c.args.conditions.now in
    let index = c.loop-condition.condition-index in
    let none : drop index conditions ≡ [] = drop_all index conditions c.loop-condition-test.false in
    all_done (map boxed_truth conditions) (map boxed_truth (drop index conditions)) c.args.block.now.rows _ (ap (map boxed_truth) none)
    c.loop-condition.invariant.long c.loop-condition.invariant.left
