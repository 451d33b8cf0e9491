use Rattle.listen_sockets.proofs.LingeringLemmas.{may-hold}
use Rattle.listen_sockets.proofs.server.Server.linger.Goals as goal

pub returns-clause-lingering : goal.returns-clause-lingering
returns-clause-lingering c = may-hold _ _ _ _ c.close-closed.ensures.peer c.hold.ensures.lingering
