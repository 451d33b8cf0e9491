use Rattle.odata_hub.specs.Stands.{ArePlacesTook}
use Rattle.odata_hub.proofs.PlaceLemmas.{written}
use Rattle.odata_hub.proofs.hub.Hub.took.Goals as goal

pub returns-clause-took : goal.returns-clause-took
returns-clause-took c =
    let catalog = c.args.self.now.catalog.value in
    written (λ old new. ArePlacesTook catalog old c.args.conn.0 c.args.count new) c.args.self.now.places.len c.args.self.now.places.items
    c.deref_mut.result.now c.took_at.new.places c.deref_mut.ensures.value c.deref_mut.ensures.len c.took_at.ensures.len (c.took_at.ensures.took catalog)
