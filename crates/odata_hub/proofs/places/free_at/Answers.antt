use Rattle.std.proofs.Common.{List, Option, arith, subst, sym}
use Rattle.odata_hub.specs.Connections.{Done}
use Rattle.odata_hub.specs.Schedules.{Drop}
use Rattle.odata_hub.specs.Stands.{IsPlacesStep}
use Rattle.odata_hub.specs.declared.connection.Connection.{Connection}
use Rattle.odata_hub.proofs.PlaceLemmas.{beyond, freed_by, not_freed, not_freed_by}
use Rattle.odata_hub.proofs.places.free_at.Goals as goal

pub returns-then-place-places-clause-step : goal.returns-then-place-places-clause-step
returns-then-place-places-clause-step c = λ catalog.
    not_freed catalog c.args.places.now c.args.place (beyond c.args.places.now c.args.place (omega (arith, c.if-place-places.true)))

pub returns-then-is_none-clause-step : goal.returns-then-is_none-clause-step
returns-then-is_none-clause-step c = λ catalog.
    not_freed_by catalog c.args.places.now c.args.place c.index-places-place.result c.is_none.result (omega (arith, c.if-place-places.false))
    c.is_none.ensures c.if-is_none.true

pub returns-clause-step : goal.returns-clause-step
returns-clause-step c = λ catalog.
    subst (λ (ps : List (Option Connection)). IsPlacesStep catalog c.args.places.now (Drop c.args.place) Done ps) (sym c.put_at.ensures)
    (freed_by catalog c.args.places.now c.args.place c.index-places-place.result c.is_none.result (omega (arith, c.if-place-places.false))
    c.is_none.ensures c.if-is_none.false)
