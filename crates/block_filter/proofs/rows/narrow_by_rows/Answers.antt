use Rattle.std.proofs.Common.{arith}
use Rattle.typed_trees.specs.TypedTree.{truth_view}
use Rattle.block_filter.proofs.RowLemmas.{all_narrowed, none_is, other_row, wanted_row}
use Rattle.block_filter.proofs.rows.narrow_by_rows.Goals as goal
use Rattle.block_filter.proofs.rows.narrow_by_rows.Goals.{then-wanted-row+in_ok-read_row+in_ok-outcome, else-wanted-row}

pub loop-row-preserved : goal.loop-row-preserved
loop-row-preserved c =
    let e = truth_view c.args.condition.now in
    let rows = c.args.block.now.rows in
    let was = c.args.wanted.now in
    let i = c.loop-row.row in
    elim c.if-wanted-row.branch [
      | then-wanted-row+in_ok-read_row+in_ok-outcome w ↦
          let outcome = w.in_ok-outcome.outcome in
          let made = rw (w.deref.ensures.value, w.in_ok-read_row.ensures) at w.in_ok-outcome.ensures in
          rw (w.wanted-is, w.faulted-is, w.is_true.ensures, ← (none_is outcome w.is_none-faulted.result w.is_none-faulted.ensures))
          (wanted_row e rows was c.loop-row.wanted i c.loop-row.faulted (omega (arith, c.loop-row-test.true)) c.requires.long c.loop-row.invariant outcome w.if-wanted-row.true made c.loop-row.auto.wanted)
      | else-wanted-row w ↦
          rw (w.wanted-is, w.faulted-is) (other_row e rows was c.loop-row.wanted i c.loop-row.faulted (omega (arith, c.loop-row-test.true)) c.requires.long c.loop-row.invariant w.if-wanted-row.false)
    ]

pub returns : goal.returns
returns c =
    all_narrowed (truth_view c.args.condition.now) c.args.block.now.rows c.args.wanted.now c.loop-row.wanted c.loop-row.row c.loop-row.faulted
    (omega (arith, c.loop-row-test.false)) c.requires.long c.loop-row.invariant
