use Rattle.std.proofs.Common.{arith}
use Rattle.odata_hub.proofs.PlaceLemmas.{beyond, stands_at}
use Rattle.odata_hub.proofs.TookLemmas.{tells_nowhere, tells_took, took_nowhere, took_nowhere_again, took_there}
use Rattle.odata_hub.proofs.places.took_at.Goals as goal

pub returns-then-place-places-clause-took : goal.returns-then-place-places-clause-took
returns-then-place-places-clause-took c = λ catalog.
    took_nowhere catalog c.args.places.now c.args.place c.args.count (beyond c.args.places.now c.args.place (omega (arith, c.if-place-places.true)))

pub returns-then-place-places-clause-tells : goal.returns-then-place-places-clause-tells
returns-then-place-places-clause-tells c = λ catalog h a.
    tells_nowhere catalog c.args.places.now c.args.place h a (beyond c.args.places.now c.args.place (omega (arith, c.if-place-places.true)))

pub returns-in-Some-clause-took : goal.returns-in-Some-clause-took
returns-in-Some-clause-took c = λ catalog.
    took_there catalog c.args.places.now c.args.place c.args.count c.in-Some.connection _
    (stands_at c.args.places.now c.args.place c.index-places-place.result _ (omega (arith, c.if-place-places.false)) c.in-Some.is)
    c.took.ensures

pub returns-in-Some-clause-tells : goal.returns-in-Some-clause-tells
returns-in-Some-clause-tells c = λ catalog h a.
    tells_took catalog c.args.places.now c.args.place c.in-Some.connection h a
    (stands_at c.args.places.now c.args.place c.index-places-place.result _ (omega (arith, c.if-place-places.false)) c.in-Some.is)

pub returns-in-None-clause-took : goal.returns-in-None-clause-took
returns-in-None-clause-took c = λ catalog.
    took_nowhere_again catalog c.args.places.now c.args.place c.args.count _
    (stands_at c.args.places.now c.args.place c.index-places-place.result _ (omega (arith, c.if-place-places.false)) c.in-None.is) c.in-None.is

pub returns-in-None-clause-tells : goal.returns-in-None-clause-tells
returns-in-None-clause-tells c = λ catalog h a.
    tells_nowhere catalog c.args.places.now c.args.place h a
    (stands_at c.args.places.now c.args.place c.index-places-place.result _ (omega (arith, c.if-place-places.false)) c.in-None.is)
