use Rattle.std.proofs.Common.{◌≡◌, ◌∙◌, ◌+◌, ◌-◌, ◌/◌, true, false, ap, arith, get_or, not, subst, sym}
use Rattle.sort_rows.specs.Runs.{row_at}
use Rattle.sort_rows.specs.declared.run_rows.RunRow.{RunRow}
use Rattle.result_rows.specs.Fronts.{precedes}
use Rattle.result_rows.proofs.CutLemmas.{front_grows, others_grow}
use Rattle.result_rows.proofs.skip.front_of.Goals as goal
use Rattle.result_rows.proofs.skip.front_of.Goals.{then-ties, else-ties}

pub loop-low-preserved-then-before : goal.loop-low-preserved-then-before
loop-low-preserved-then-before c =
    let columns = c.args.plain.now in
    let rows = c.args.columns.now.rows in
    let pivot = row_at rows c.args.pivot in
    let middle = c.loop-low.low + (c.loop-low.high - c.loop-low.low) / 2 in
    let none : RunRow = record { first = 0; second = 0; number = 0 } in
    let row = row_at rows (get_or c.args.run.now middle none) in
    let is : precedes columns pivot c.args.ties row ≡ true = elim c.if-ties.branch [
      | then-ties w ↦ subst (λ t. precedes columns pivot t row ≡ true) (sym w.if-ties.true) (sym (ap not w.is_less.ensures) ∙ sym w.before-is ∙ c.if-before.true)
      | else-ties w ↦ subst (λ t. precedes columns pivot t row ≡ true) (sym w.if-ties.false) (sym w.is_less-before.ensures ∙ sym w.before-is ∙ c.if-before.true)
    ] in
    record {
      rising = omega arith;
      within = c.loop-low.invariant.within;
      front = front_grows c.values_are_ordered.ensures.total columns rows pivot c.args.ties c.args.run.now middle none c.requires.rising (omega arith) is;
      others = c.loop-low.invariant.others;
    }

pub loop-low-preserved : goal.loop-low-preserved
loop-low-preserved c =
    let columns = c.args.plain.now in
    let rows = c.args.columns.now.rows in
    let pivot = row_at rows c.args.pivot in
    let middle = c.loop-low.low + (c.loop-low.high - c.loop-low.low) / 2 in
    let none : RunRow = record { first = 0; second = 0; number = 0 } in
    let row = row_at rows (get_or c.args.run.now middle none) in
    let is : precedes columns pivot c.args.ties row ≡ false = elim c.if-ties.branch [
      | then-ties w ↦ subst (λ t. precedes columns pivot t row ≡ false) (sym w.if-ties.true) (sym (ap not w.is_less.ensures) ∙ sym w.before-is ∙ c.if-before.false)
      | else-ties w ↦ subst (λ t. precedes columns pivot t row ≡ false) (sym w.if-ties.false) (sym w.is_less-before.ensures ∙ sym w.before-is ∙ c.if-before.false)
    ] in
    record {
      rising = omega arith;
      within = omega arith;
      front = c.loop-low.invariant.front;
      others = others_grow c.values_are_ordered.ensures.total columns rows pivot c.args.ties c.args.run.now middle none c.requires.rising (omega arith) is;
    }
