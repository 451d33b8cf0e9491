use Rattle.std.proofs.Common.{◌∙◌, ap, subst, sym}
use Rattle.event_scripts.specs.Command as command
use Rattle.table_store.specs.Catalog.{CatalogOf}
use Rattle.odata_hub.specs.Connections.{End, Piece, Take, Turn}
use Rattle.odata_hub.specs.Schedules.{Drop, On, Open}
use Rattle.odata_hub.specs.Stands.{current_tables}
use Rattle.hub_scripts.specs.Replay.{Happens, Stage}
use Rattle.hub_scripts.proofs.CommandLemmas.{comes_by}
use Rattle.hub_scripts.proofs.replay.command_line.Goals as goal

pub returns-in_ok-opened_line-in-Open : goal.returns-in_ok-opened_line-in-Open
returns-in_ok-opened_line-in-Open g c = λ h stands.
    rw c.in-Open.is (comes_by command.Open Open c.args.hub.now c.open.new.self _ h (λ o s t k e. k) _
    (record { answer = _; step = c.open.ensures; text_is = c.in_ok-opened_line-in-Open.ensures }) stands)

pub returns-in_ok-done_line-in-End : goal.returns-in_ok-done_line-in-End
returns-in_ok-done_line-in-End g c = λ h stands.
    rw c.in-End.is (comes_by (command.End c.in-End.place) (On c.in-End.place End) c.args.hub.now c.end.new.self _ h (λ o s t k e. k) _
    (record { answer = _; step = c.end.ensures; text_is = c.in_ok-done_line-in-End.ensures }) stands)

pub returns-in_ok-turned_line-in-Turn : goal.returns-in_ok-turned_line-in-Turn
returns-in_ok-turned_line-in-Turn g c = λ h stands.
    rw c.in-Turn.is (comes_by (command.Turn c.in-Turn.place) (On c.in-Turn.place Turn) c.args.hub.now c.turn.new.self _ h (λ o s t k e. k) _
    (record { answer = _; step = c.turn.ensures; text_is = c.in_ok-turned_line-in-Turn.ensures }) stands)

pub returns-in_ok-done_line-in-Drop : goal.returns-in_ok-done_line-in-Drop
returns-in_ok-done_line-in-Drop g c = λ h stands.
    rw c.in-Drop.is (comes_by (command.Drop c.in-Drop.place) (Drop c.in-Drop.place) c.args.hub.now c.drop_conn.new.self _ h (λ o s t k e. k) _
    (record { answer = _; step = c.drop_conn.ensures; text_is = c.in_ok-done_line-in-Drop.ensures }) stands)

pub returns-in_ok-take_line-in-Take : goal.returns-in_ok-take_line-in-Take
returns-in_ok-take_line-in-Take g c = λ h stands.
    rw c.in-Take.is (comes_by (command.Take c.in-Take.place c.in-Take.room) (On c.in-Take.place (Take c.in-Take.room)) _ _ _ h (λ o s t k e. k) _
    c.in_ok-take_line-in-Take.ensures stands)

pub returns-in_ok-done_line-in-Piece : goal.returns-in_ok-done_line-in-Piece
returns-in_ok-done_line-in-Piece g c = λ h stands.
    rw (c.in-Piece.is, ← c.as_slice.ensures.value) (comes_by (command.Piece c.in-Piece.place c.as_slice.result.now)
    (On c.in-Piece.place (Piece (current_tables c.args.hub.now) c.as_slice.result.now)) c.args.hub.now c.piece.new.self _ h
    (λ o s t k e. subst (λ (x : CatalogOf). Happens (On c.in-Piece.place (Piece x c.as_slice.result.now)) s o t)
    (sym (ap (λ (u : Stage). u.hub.catalog) e ∙ stands.tables)) k) _
    (record { answer = _; step = c.piece.ensures; text_is = c.in_ok-done_line-in-Piece.ensures }) stands)
