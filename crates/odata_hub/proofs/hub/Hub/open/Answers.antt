use Rattle.std.proofs.Common.{◌≡◌, ◌∙◌, List, Option, Some, ap, length, position, subst, sym}
use Rattle.std.specs.Option.{is_none}
use Rattle.std.proofs.lemmas.List.{length-set}
use Rattle.odata_hub.specs.declared.connection.Connection.{Connection}
use Rattle.odata_hub.specs.Connections.{Opened}
use Rattle.odata_hub.specs.Schedules.{Open}
use Rattle.odata_hub.specs.Stands.{IsPlacesStep}
use Rattle.odata_hub.proofs.PlaceLemmas.{full, taken, written_back}
use Rattle.odata_hub.proofs.hub.Hub.open.Goals as goal

pub returns-in-Some : goal.returns-in-Some
returns-in-Some c =
    let catalog = c.args.self.now.catalog.value in
    let items = c.args.self.now.places.items in
    let now = c.deref_mut.result.now in
    let place = c.in-Some.place in
    let free : position is_none items ≡ Some place = sym (rw c.as_slice.ensures.value at c.in-Some.ensures) in
    let open_now = taken catalog now place c.new-opened.result (ap (position is_none) c.deref_mut.ensures.value ∙ free) c.new-opened.ensures in
    written_back catalog c.args.self.now.places.len items now c.put_at.new.places Open _ c.deref_mut.ensures.value c.deref_mut.ensures.len
    (ap length c.put_at.ensures ∙ length-set now place (Some c.new-opened.result))
    (subst (λ (ps : List (Option Connection)). IsPlacesStep catalog now Open (Opened place) ps) (sym c.put_at.ensures) open_now)

pub returns-in-None : goal.returns-in-None
returns-in-None c = full c.args.self.now.catalog.value c.args.self.now.places.items (sym (rw c.as_slice.ensures.value at c.in-None.ensures))
