use Rattle.odata_hub.proofs.StepLemmas.{end_done, steps_on}
use Rattle.odata_hub.specs.Connections.{End}
use Rattle.odata_hub.specs.Stands.{conn_of}
use Rattle.odata_hub.proofs.connection.Connection.end.Goals as goal

pub returns : goal.returns
returns c = steps_on c.args.self.now _ End _ (λ f x. (f, end_done (conn_of c.args.self.now f) c.if-self.false c.if-self-2.false, x))
