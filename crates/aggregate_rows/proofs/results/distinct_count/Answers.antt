use Rattle.std.proofs.Common.{◌+◌, take, sym, ap, ◌∙◌, arith}
use Rattle.std.proofs.lemmas.List.{length-take}
use Rattle.cell_types.proofs.ListLaws.{length-filter_map-le}
use Rattle.aggregate_rows.specs.Distinct.{distinct_place}
use Rattle.aggregate_rows.proofs.ResultLemmas.{no-more-counts, one-more-counts}
use Rattle.aggregate_rows.proofs.results.distinct_count.Goals as goal
use Rattle.aggregate_rows.proofs.results.distinct_count.Goals.{else-is_some, then-is_some}

pub overflow_add-count : goal.overflow_add-count
overflow_add-count c =
    let aggregates = c.args.aggregates.now in
    let i = c.loop-aggregate.aggregate-index in
    omega (arith, c.loop-aggregate.invariant, length-filter_map-le distinct_place (take i aggregates), length-take i aggregates)

pub loop-aggregate-preserved : goal.loop-aggregate-preserved
loop-aggregate-preserved c =
    let aggregates = c.args.aggregates.now in
    let i = c.loop-aggregate.aggregate-index in
    elim c.if-is_some.branch [
      | then-is_some w ↦ w.count-is ∙ ap (λ n. n + 1) c.loop-aggregate.invariant
          ∙ sym (one-more-counts aggregates i c.loop-aggregate-test.true c.distinct_place.result (sym c.distinct_place.ensures) (sym c.is_some.ensures ∙ w.if-is_some.true))
      | else-is_some w ↦ w.count-is ∙ c.loop-aggregate.invariant
          ∙ sym (no-more-counts aggregates i c.loop-aggregate-test.true c.distinct_place.result (sym c.distinct_place.ensures) (sym c.is_some.ensures ∙ w.if-is_some.false))
    ]
