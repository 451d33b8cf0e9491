use Rattle.std.proofs.Common.{◌++◌}
use Rattle.odata_http.specs.Reply.{IsReply}
use Rattle.odata_http.proofs.OutputLemmas.{piece_pushed, piece_stopped}
use Rattle.odata_http.proofs.SessionLemmas.{fed, fed_failed}
use Rattle.odata_http.proofs.session.Session.feed.Goals as goal

pub returns-in-Ok : goal.returns-in-Ok
returns-in-Ok c =
    let stream = c.self.inside.splitter ++ c.args.piece.now in
    let taken = piece_pushed (IsReply c.args.catalog.now) stream c.take_in.new.splitter c.self.inside.output c.take_in.new.out c.in-Ok.closed c.in-Ok.ensures in
    let live = rw (← c.self.view_is) at c.in_ok-check_live.ensures in
    rw (← c.self.view_is) (fed (IsReply c.args.catalog.now) c.args.piece.now c.self.inside.splitter c.self.inside.output _ _ taken.0 c.self.inside.closed c.in-Ok.closed
    c.self.inside.state live c.if-self.false taken.1 taken.2)

pub returns-in-Err : goal.returns-in-Err
returns-in-Err c =
    let stream = c.self.inside.splitter ++ c.args.piece.now in
    let taken = piece_stopped (IsReply c.args.catalog.now) stream c.take_in.new.splitter c.self.inside.output c.take_in.new.out c.in-Err.field-0 c.in-Err.ensures in
    let live = rw (← c.self.view_is) at c.in_ok-check_live.ensures in
    rw (← c.self.view_is) (fed_failed (IsReply c.args.catalog.now) c.args.piece.now c.self.inside.splitter c.self.inside.output c.take_in.new.splitter c.take_in.new.out
    taken.0 c.self.inside.closed c.self.inside.state live c.if-self.false taken.1 taken.2)
