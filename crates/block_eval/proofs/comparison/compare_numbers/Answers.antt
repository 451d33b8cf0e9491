use Rattle.typed_trees.specs.TypedTree.{number_view}
use Rattle.row_eval.specs.Outcome.{number_outcome}
use Rattle.block_eval.proofs.NumberLemmas.{compared-gives}
use Rattle.block_eval.proofs.SpanLemmas.{spans-give}
use Rattle.block_eval.proofs.comparison.compare_numbers.Goals as goal

pub returns : goal.returns
returns c =
    compared-gives c.args.operator (number_outcome (number_view c.args.left.now)) (number_outcome (number_view c.args.right.now)) c.args.rows.columns.now c.args.rows.wanted.now
    c.in_ok-left.left c.in_ok-right.right c.in_ok-truths-2.truths.items c.in_ok-left.ensures c.in_ok-right.ensures c.in_ok-truths-2.ensures

pub returns-in-Some : goal.returns-in-Some
returns-in-Some c =
    spans-give c.args.operator (number_view c.args.left.now) (number_view c.args.right.now) c.args.rows.columns.now c.in-Some.column.now c.in-Some.span c.args.rows.wanted.now c.in_ok-truths.truths.items
    c.in-Some.ensures.span c.in-Some.ensures.long c.in_ok-truths.ensures
