use Rattle.std.proofs.Common.{length}
use Rattle.odata_hub.specs.Connections.{Take}
use Rattle.odata_hub.specs.Schedules.{On}
use Rattle.odata_hub.proofs.PlaceLemmas.{written_back}
use Rattle.odata_hub.proofs.hub.Hub.take.Goals as goal

pub returns-clause-step : goal.returns-clause-step
returns-clause-step c =
    let catalog = c.args.self.now.catalog.value in
    written_back catalog c.args.self.now.places.len c.args.self.now.places.items c.deref_mut.result.now c.take_at.new.places
    (On c.args.conn.0 (Take (length c.args.out.now))) _ c.deref_mut.ensures.value c.deref_mut.ensures.len c.take_at.ensures.len (c.take_at.ensures.step catalog)
