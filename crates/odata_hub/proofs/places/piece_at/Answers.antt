use Rattle.std.proofs.Common.{arith, refl}
use Rattle.odata_hub.specs.Connections.{Piece}
use Rattle.odata_hub.proofs.PlaceLemmas.{beyond, called, nowhere, nowhere_again, stands_at}
use Rattle.odata_hub.proofs.places.piece_at.Goals as goal

pub returns-then-place-places-clause-step : goal.returns-then-place-places-clause-step
returns-then-place-places-clause-step c =
    nowhere c.args.catalog.now.value c.args.places.now c.args.place (Piece c.args.catalog.now.value c.args.piece.now) (beyond c.args.places.now c.args.place (omega (arith, c.if-place-places.true)))

pub returns-in-Some-clause-step : goal.returns-in-Some-clause-step
returns-in-Some-clause-step c =
    called c.args.catalog.now.value c.args.places.now c.args.place (Piece c.args.catalog.now.value c.args.piece.now) _ c.in-Some.connection _
    (stands_at c.args.places.now c.args.place c.index-places-place.result _ (omega (arith, c.if-place-places.false)) c.in-Some.is)
    c.piece.ensures refl

pub returns-in-None-clause-step : goal.returns-in-None-clause-step
returns-in-None-clause-step c =
    nowhere_again c.args.catalog.now.value c.args.places.now c.args.place (Piece c.args.catalog.now.value c.args.piece.now) _
    (stands_at c.args.places.now c.args.place c.index-places-place.result _ (omega (arith, c.if-place-places.false)) c.in-None.is) c.in-None.is
