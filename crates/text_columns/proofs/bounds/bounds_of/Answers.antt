use Rattle.std.proofs.Common.{refl, arith}
use Rattle.text_columns.proofs.BoundLemmas.{bounds-end, bounds-start, step-null, step-text}
use Rattle.text_columns.proofs.bounds.bounds_of.Goals.{in-Some, in-None}
use Rattle.text_columns.proofs.bounds.bounds_of.Goals as goal

pub loop-row-init : goal.loop-row-init
loop-row-init c = bounds-start c.ranges_widen.ensures c.args.column.now

pub loop-row-preserved : goal.loop-row-preserved
loop-row-preserved c = elim c.match-text.branch [
  | in-Some w ↦
      step-text c.ranges_widen.ensures c.args.column.now c.loop-row.least c.loop-row.greatest c.loop-row.null_count c.loop-row.row
      (record { row = c.loop-row.row; text = w.in-Some.text }) w.lesser_text.result w.greater_text.result
      c.match-text.least c.match-text.greatest c.match-text.null_count w.least-is w.greatest-is w.null_count-is (omega arith) w.in-Some.ensures refl
      w.lesser_text.ensures.text w.lesser_text.ensures.among w.greater_text.ensures.text w.greater_text.ensures.among c.loop-row.invariant
  | in-None w ↦
      step-null c.ranges_widen.ensures c.args.column.now c.loop-row.least c.loop-row.greatest c.loop-row.null_count c.loop-row.row
      c.match-text.least c.match-text.greatest c.match-text.null_count w.least-is w.greatest-is w.null_count-is (omega arith) w.in-None.ensures c.loop-row.invariant
]

pub returns : goal.returns
returns c =
    bounds-end c.args.column.now c.loop-row.least c.loop-row.greatest c.loop-row.null_count c.loop-row.row c.row_of.result c.row_of-2.result
    (omega arith) c.row_of.ensures c.row_of-2.ensures c.loop-row.invariant
