use Rattle.odata_hub.specs.Schedules.{conn_at}
use Rattle.listen_sockets.proofs.ServerLemmas.{told_of, untold_of}
use Rattle.listen_sockets.proofs.server.Server.is_hopeless.Goals as goal

pub returns-in-Ok : goal.returns-in-Ok
returns-in-Ok c = λ h s. told_of (conn_at h c.args.place) c.in-Ok.told (c.in-Ok.ensures h s)

pub returns-in-Err : goal.returns-in-Err
returns-in-Err c = λ h s. untold_of (conn_at h c.args.place) c.in-Err.field-0 (c.in-Err.ensures h s)
