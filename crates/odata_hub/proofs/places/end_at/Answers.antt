use Rattle.std.proofs.Common.{arith}
use Rattle.odata_hub.specs.Connections.{End}
use Rattle.odata_hub.proofs.PlaceLemmas.{beyond, called, nowhere, nowhere_again, stands_at}
use Rattle.odata_hub.proofs.places.end_at.Goals as goal

pub returns-then-place-places-clause-step : goal.returns-then-place-places-clause-step
returns-then-place-places-clause-step c = λ catalog.
    nowhere catalog c.args.places.now c.args.place End (beyond c.args.places.now c.args.place (omega (arith, c.if-place-places.true)))

pub returns-in-Some-clause-step : goal.returns-in-Some-clause-step
returns-in-Some-clause-step c = λ catalog.
    called catalog c.args.places.now c.args.place End _ c.in-Some.connection _
    (stands_at c.args.places.now c.args.place c.index-places-place.result _ (omega (arith, c.if-place-places.false)) c.in-Some.is)
    c.end.ensures tt

pub returns-in-None-clause-step : goal.returns-in-None-clause-step
returns-in-None-clause-step c = λ catalog.
    nowhere_again catalog c.args.places.now c.args.place End _
    (stands_at c.args.places.now c.args.place c.index-places-place.result _ (omega (arith, c.if-place-places.false)) c.in-None.is) c.in-None.is
