use Rattle.std.proofs.Common.{ap, ◌∙◌}
use Rattle.std.specs.Prelude.{not}
use Rattle.odata_hub.specs.Schedules.{conn_at}
use Rattle.listen_sockets.proofs.ServerLemmas.{lent_waits, none_lent}
use Rattle.listen_sockets.proofs.server.Server.has_waiting.Goals as goal

pub returns-in-Ok : goal.returns-in-Ok
returns-in-Ok c = λ h s. ap not c.is_empty.ensures ∙ lent_waits (conn_at h c.args.place) c.in-Ok.output (c.in-Ok.ensures h s)

pub returns-in-Err : goal.returns-in-Err
returns-in-Err c = λ h s. none_lent (conn_at h c.args.place) c.in-Err.field-0 (c.in-Err.ensures h s)
