use Rattle.odata_hub.proofs.HopelessLemmas.{told_by_rest}
use Rattle.odata_hub.proofs.connection.Connection.is_hopeless.Goals as goal

pub returns : goal.returns
returns c = told_by_rest c.args.self.now c.is_hopeless.result c.is_hopeless.ensures
