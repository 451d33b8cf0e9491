use Rattle.listen_sockets.proofs.SocketLemmas.{socket_read}
use Rattle.listen_sockets.proofs.sockets.Wire.read.Goals as goal

pub returns-clause-read : goal.returns-clause-read
returns-clause-read c =
    let read = c.read_peer-answer in
    socket_read c.args.self.now read.new.self c.count.new.self _ _ read.ensures.bound read.ensures.counts c.count.ensures.counts c.count.ensures.peer
