use Rattle.std.proofs.Common.{FitsSigned, ap, rules, subst}
use Rattle.std.specs.Int.{w128}
use Rattle.std.proofs.lemmas.Int.{to_z-of_z}
use Rattle.typed_trees.specs.TypedTree.{number_view}
use Rattle.zone_maps.specs.Known.{IsConstantNumber}
use Rattle.block_eval.specs.Spans.{IsSpanOf}
use Rattle.block_eval.proofs.SpanLemmas.{column-spans}
use Rattle.block_eval.proofs.spans.column_and_span.Goals as goal

pub returns-in_ok-span-in-Column-clause-span : goal.returns-in_ok-span-in-Column-clause-span
returns-in_ok-span-in-Column-clause-span c =
    let number = c.in_ok-number.number in
    let span = c.in_ok-span-in-Column.span in
    let fits : FitsSigned w128 number = search rules in
    column-spans c.args.columns.now c.in-Column.kind c.in-Column.place c.in_ok-column-in-Column.column.now (number_view c.args.left.now) (number_view c.args.right.now) number span
    (ap number_view c.in-Column.is) c.in_ok-column-in-Column.ensures.numbers c.in_ok-column-in-Column.ensures.typed
    (subst (IsConstantNumber (number_view c.args.right.now)) c.in_ok-number.was c.in_ok-constant_number.ensures)
    (subst (λ z. IsSpanOf (λ n. n) z span) (to_z-of_z w128 number fits) c.in_ok-span-in-Column.ensures)
