use Rattle.std.proofs.Common.{◌++◌, ap, arith, length, sym, ◌∙◌}
use Rattle.std.specs.Vec.Iter.{into_iter_items}
use Rattle.odata_hub.specs.Streams.{asked}
use Rattle.odata_hub.proofs.PieceLemmas.{next_small, waits_all, waits_next}
use Rattle.odata_hub.proofs.flight.wait_all.Goals as goal

pub invariant_of-push_back : goal.invariant_of-push_back
invariant_of-push_back c = (next_small _ _ c.in-Some.head c.in-Some.ensures.steps.0 c.loop-head.invariant.1).0

pub loop-head-preserved : goal.loop-head-preserved
loop-head-preserved c =
    let at = c.loop-head in
    let steps = c.in-Some.ensures.steps in
    let was = at.invariant.0 in
    let gone = steps.1 in
    let short = ap length steps.0 in (
      omega (arith, was, gone, short),
      (next_small _ _ c.in-Some.head steps.0 at.invariant.1).1,
      waits_next _ _ _ c.in-Some.head _ _ _ steps.0 at.invariant.2 (rw c.in_ok-tables.ensures.cases at c.in_ok-push_back.ensures.items),
    )

pub returns : goal.returns
returns c =
    let at = c.loop-head in
    let none = c.in-None.ensures.steps in
    waits_all c.args.catalog.now.value (into_iter_items at.head-iterator) at.waiting.items _ (sym at.invariant.0 ∙ none.0) at.invariant.2
    ∙ ap (λ hs. c.args.waiting.now.items ++ asked c.args.catalog.now.value hs) c.into_iter-head-iterator.ensures.into_iter_gives.0
