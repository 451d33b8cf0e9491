use Rattle.odata_hub.specs.Schedules.{Drop}
use Rattle.odata_hub.proofs.PlaceLemmas.{written_back}
use Rattle.odata_hub.proofs.hub.Hub.drop_conn.Goals as goal

pub returns : goal.returns
returns c =
    let catalog = c.args.self.now.catalog.value in
    written_back catalog c.args.self.now.places.len c.args.self.now.places.items c.deref_mut.result.now c.free_at.new.places (Drop c.args.conn.0) _
    c.deref_mut.ensures.value c.deref_mut.ensures.len c.free_at.ensures.len (c.free_at.ensures.step catalog)
