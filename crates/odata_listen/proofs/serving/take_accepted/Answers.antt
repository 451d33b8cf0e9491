use Rattle.std.proofs.Common.{subst}
use Rattle.listen_sockets.specs.declared.peer.Peer.{Peer}
use Rattle.odata_listen.specs.Serving.{TakesPeerIn}
use Rattle.odata_listen.proofs.serving.take_accepted.Goals as goal

pub returns-in-Ok-clause-taken : goal.returns-in-Ok-clause-taken
returns-in-Ok-clause-taken c =
    let P : Peer → Type 0 = λ p. TakesPeerIn p c.args.server.now c.open.new.server in rw c.in-Ok.is (subst P c.new-peer.ensures c.open.ensures.peer)
