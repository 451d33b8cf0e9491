use Rattle.std.proofs.Common.{refl}
use Rattle.odata_hub.proofs.TookLemmas.{took_by}
use Rattle.odata_hub.proofs.connection.Connection.took.Goals as goal

pub returns : goal.returns
returns c = took_by c.args.self.now _ c.args.count (rw c.took.ensures refl)
