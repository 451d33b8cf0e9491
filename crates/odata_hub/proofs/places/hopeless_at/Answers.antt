use Rattle.std.proofs.Common.{arith, sym, ◌∙◌}
use Rattle.odata_hub.proofs.PlaceLemmas.{beyond, stands_at, tells_hopeless, tells_no_rest}
use Rattle.odata_hub.proofs.places.hopeless_at.Goals as goal

pub returns-then-place-places : goal.returns-then-place-places
returns-then-place-places c = λ catalog h a.
    tells_no_rest catalog c.args.places.now c.args.place h a (beyond c.args.places.now c.args.place (omega (arith, c.if-place-places.true)))

pub returns-in-Some : goal.returns-in-Some
returns-in-Some c = λ catalog h a.
    tells_hopeless catalog c.args.places.now c.args.place c.in-Some.connection c.is_hopeless.result h a
    (stands_at c.args.places.now c.args.place c.index-places-place.result _ (omega (arith, c.if-place-places.false)) (sym c.index-places-place.is ∙ c.in-Some.is))
    c.is_hopeless.ensures

pub returns-in-None : goal.returns-in-None
returns-in-None c = λ catalog h a.
    tells_no_rest catalog c.args.places.now c.args.place h a
    (stands_at c.args.places.now c.args.place c.index-places-place.result _ (omega (arith, c.if-place-places.false)) (sym c.index-places-place.is ∙ c.in-None.is))
