use Rattle.std.proofs.Common.{List, subst}
use Rattle.std.specs.Prelude.{Bool}
use Rattle.listen_sockets.specs.Peer.{after_visit}
use Rattle.listen_sockets.specs.Sockets.{ChangesPeer}
use Rattle.listen_sockets.proofs.server.Server.note_work.Goals as goal

pub returns-clause-sockets : goal.returns-clause-sockets
returns-clause-sockets c = λ h s.
    let P : Bool → Type 0 = λ w.
    ChangesPeer c.args.place (after_visit c.args.now w) c.args.self.now.sockets.wires.items c.note_work.new.self.wires.items in
    subst P (c.has_waiting-waits.ensures h s) c.note_work.ensures.sockets
