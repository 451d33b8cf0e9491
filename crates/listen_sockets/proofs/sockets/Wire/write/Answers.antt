use Rattle.listen_sockets.proofs.SocketLemmas.{socket_write}
use Rattle.listen_sockets.proofs.sockets.Wire.write.Goals as goal

pub returns-clause-write : goal.returns-clause-write
returns-clause-write c =
    let wrote = c.write_peer-answer in
    socket_write c.args.self.now wrote.new.self c.count.new.self _ _ wrote.ensures.bound wrote.ensures.some wrote.ensures.counts c.count.ensures.counts
    c.count.ensures.peer
