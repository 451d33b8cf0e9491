use Rattle.odata_hub.specs.Connections.{End}
use Rattle.odata_hub.specs.Schedules.{On}
use Rattle.odata_hub.proofs.PlaceLemmas.{written_back}
use Rattle.odata_hub.proofs.hub.Hub.end.Goals as goal

pub returns : goal.returns
returns c =
    let catalog = c.args.self.now.catalog.value in
    written_back catalog c.args.self.now.places.len c.args.self.now.places.items c.deref_mut.result.now c.end_at.new.places (On c.args.conn.0 End) _
    c.deref_mut.ensures.value c.deref_mut.ensures.len c.end_at.ensures.len (c.end_at.ensures.step catalog)
