use Rattle.std.proofs.Common.{arith, sym, ◌∙◌}
use Rattle.odata_hub.proofs.PlaceLemmas.{beyond, stands_at}
use Rattle.odata_hub.proofs.TookLemmas.{lends_nowhere, lends_there}
use Rattle.odata_hub.proofs.places.waiting_at.Goals as goal

pub returns-then-place-places : goal.returns-then-place-places
returns-then-place-places c = λ catalog h a.
    lends_nowhere catalog c.args.places.now c.args.place h a (beyond c.args.places.now c.args.place (omega (arith, c.if-place-places.true)))

pub returns-in-Some : goal.returns-in-Some
returns-in-Some c = λ catalog h a.
    lends_there catalog c.args.places.now c.args.place c.in-Some.connection c.waiting.result h a
    (stands_at c.args.places.now c.args.place c.index-places-place.result _ (omega (arith, c.if-place-places.false)) (sym c.index-places-place.is ∙ c.in-Some.is))
    c.waiting.ensures

pub returns-in-None : goal.returns-in-None
returns-in-None c = λ catalog h a.
    lends_nowhere catalog c.args.places.now c.args.place h a
    (stands_at c.args.places.now c.args.place c.index-places-place.result _ (omega (arith, c.if-place-places.false)) (sym c.index-places-place.is ∙ c.in-None.is))
