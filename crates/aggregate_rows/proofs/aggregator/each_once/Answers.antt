use Rattle.std.proofs.Common.{◌≡◌, ◌<◌, Vec, Global, length, map, take, ap, ◌∙◌, arith}
use Rattle.odata_query.specs.Aggregate.{named_view}
use Rattle.odata_query.specs.declared.aggregate.Aggregate.{Aggregate}
use Rattle.aggregate_rows.specs.Gathered.{plain_aggregates}
use Rattle.aggregate_rows.proofs.OnceLemmas.{added, found, next_named}
use Rattle.aggregate_rows.proofs.aggregator.each_once.Goals as goal
use Rattle.aggregate_rows.proofs.aggregator.each_once.Goals.{then-place-len+in_ok-push, else-place-len}

pub loop-named-preserved : goal.loop-named-preserved
loop-named-preserved c =
    let aggregates = c.args.aggregates.now in
    let i = c.loop-named.named-index in
    let item = c.named-item.result in
    let once = c.loop-named.once.items in
    let shown = c.loop-named.shown.items in
    let place = c.place_of-place.result in
    let named = plain_aggregates (map named_view (take i aggregates)) in
    let place_of = rw c.deref.ensures.value at c.place_of-place.ensures in
    rw (next_named aggregates i item c.loop-named-test.true c.named-item.is, c.in_ok-push-2.ensures.items) (elim c.if-place-len.branch [
      | then-place-len+in_ok-push w ↦
          let here : place ≡ length once = omega (arith, w.if-place-len.true, c.len.ensures) in
          rw (ap (λ (v : Vec Aggregate Global). v.items) w.once-is ∙ w.in_ok-push.ensures.items, here)
          (added named once shown item.aggregate c.loop-named.invariant (λ j less. place_of.first j (omega (arith, here, less))))
      | else-place-len w ↦
          let there : place < length once = omega (arith, w.if-place-len.false, c.len.ensures, place_of.within) in
          rw (ap (λ (v : Vec Aggregate Global). v.items) w.once-is) (found named once shown item.aggregate c.loop-named.invariant place there (place_of.is there))
    ])
