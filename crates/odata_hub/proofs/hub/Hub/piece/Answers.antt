use Rattle.odata_hub.specs.Connections.{Piece}
use Rattle.odata_hub.specs.Schedules.{On}
use Rattle.odata_hub.proofs.PlaceLemmas.{written_back}
use Rattle.odata_hub.proofs.hub.Hub.piece.Goals as goal

pub returns : goal.returns
returns c =
    let catalog = c.args.self.now.catalog.value in
    written_back catalog c.args.self.now.places.len c.args.self.now.places.items c.deref_mut.result.now c.piece_at.new.places
    (On c.args.conn.0 (Piece catalog c.args.piece.now)) _ c.deref_mut.ensures.value c.deref_mut.ensures.len c.piece_at.ensures.len c.piece_at.ensures.step
