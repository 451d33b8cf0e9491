use Rattle.std.proofs.Common.{◌≡◌, ◌++◌, ◌∷◌, ◌+◌, [], length, map, take, sym, ap, ◌∙◌, append_assoc}
use Rattle.std.proofs.lemmas.List.{map_more}
use Rattle.cell_types.specs.Value.{value_view}
use Rattle.odata_query.specs.declared.aggregate.Aggregate.TheVariants.{Count}
use Rattle.query_meaning.specs.Apply.{computed_value}
use Rattle.aggregate_rows.proofs.ListLemmas.{front_more}
use Rattle.aggregate_rows.proofs.ResultLemmas.{no-set-comes, set-comes}
use Rattle.aggregate_rows.proofs.groups.push_results.Goals as goal
use Rattle.aggregate_rows.proofs.groups.push_results.Goals.{else-is_some, then-is_some+in_ok-push-2}

pub loop-aggregate-preserved : goal.loop-aggregate-preserved
loop-aggregate-preserved c =
    let aggregates = c.args.aggregates.now in
    let i = c.loop-aggregate.aggregate-index in
    let old = c.args.values.now in
    let old_sets = c.args.sets.now.items in
    let v = value_view c.result_of_none.result in
    let computed = map (computed_value []) (take i aggregates) in
    let at = sym c.distinct_place.ensures in
    let front : take (length old) c.push.new.self ≡ old = ap (take (length old)) c.in_ok-push.ensures.pushed ∙ front_more old c.loop-aggregate.values v c.loop-aggregate.invariant.front in
    let made : c.push.new.self ≡ old ++ map (computed_value []) (take (i + 1) aggregates) =
    c.in_ok-push.ensures.pushed ∙ ap (λ vs. vs ++ v ∷ []) c.loop-aggregate.invariant.values ∙ append_assoc old computed (v ∷ [])
    ∙ ap (λ vs. old ++ vs) (ap (λ x. computed ++ x ∷ []) c.result_of_none.ensures ∙ sym (map_more (computed_value []) aggregates i Count c.loop-aggregate-test.true)) in
    elim c.if-is_some.branch [
      | then-is_some+in_ok-push-2 w ↦ (let items = w.in_ok-push-2.ensures.items in rw w.sets-is (record {
        front = front;
        sets_front = ap (take (length old_sets)) items ∙ front_more old_sets c.loop-aggregate.sets.items w.none.result c.loop-aggregate.invariant.sets_front;
        values = made;
        sets = rw items (set-comes aggregates i c.loop-aggregate-test.true c.distinct_place.result at (sym c.is_some.ensures ∙ w.if-is_some.true) old_sets c.loop-aggregate.sets.items w.none.result w.none.ensures
            c.loop-aggregate.invariant.sets);
      }))
      | else-is_some w ↦ rw w.sets-is (record {
        front = front;
        sets_front = c.loop-aggregate.invariant.sets_front;
        values = made;
        sets = no-set-comes aggregates i c.loop-aggregate-test.true c.distinct_place.result at (sym c.is_some.ensures ∙ w.if-is_some.false) old_sets c.loop-aggregate.sets.items c.loop-aggregate.invariant.sets;
      })
    ]
