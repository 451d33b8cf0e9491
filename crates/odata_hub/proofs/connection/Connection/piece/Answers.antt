use Rattle.std.proofs.Common.{None, refl}
use Rattle.odata_hub.specs.Connections.{Piece}
use Rattle.odata_hub.specs.Stands.{conn_of}
use Rattle.odata_hub.proofs.PieceLemmas.{piece_in}
use Rattle.odata_hub.proofs.StepLemmas.{none_in_flight, piece_wants, steps_on}
use Rattle.odata_hub.proofs.connection.Connection.piece.Goals as goal

pub returns-in-Ok : goal.returns-in-Ok
returns-in-Ok c =
    piece_in c.args.self.now _ c.args.catalog.now.value c.args.piece.now c.if-self.false c.if-self-2.false c.if-self-3.false c.in-Ok.ensures refl (λ f. refl)

pub returns-in-Err : goal.returns-in-Err
returns-in-Err c = steps_on c.args.self.now c.fail.new.self (Piece c.args.catalog.now.value c.args.piece.now) _ (λ f x.
    let failed = c.fail.ensures.failed in (
      None,
      piece_wants (conn_of c.args.self.now f) (conn_of c.fail.new.self None) _ _ c.if-self.false c.if-self-2.false c.if-self-3.false
          (record {
            failed = failed.failed;
            output = failed.output;
            closed = failed.closed;
            ended = failed.ended;
            rest = failed.rest;
            waiting = failed.waiting;
            flight = refl;
          }),
      none_in_flight c.fail.new.self.flight c.fail.ensures.flight,
    ))
