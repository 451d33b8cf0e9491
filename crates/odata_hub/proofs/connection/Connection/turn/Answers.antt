use Rattle.std.proofs.Common.{None, refl, ◌∙◌}
use Rattle.odata_hub.specs.Connections.{Turn}
use Rattle.odata_hub.specs.Stands.{conn_of}
use Rattle.odata_hub.proofs.StepLemmas.{none_in_flight, steps_on, turn_wants, turn_went}
use Rattle.odata_hub.proofs.connection.Connection.turn.Goals as goal

pub returns-in-Ok : goal.returns-in-Ok
returns-in-Ok c = steps_on c.args.self.now c.work.new.self Turn _ (λ f x.
    let w = c.in-Ok.ensures.ok f x in
    (w.next, turn_went (conn_of c.args.self.now f) (conn_of c.work.new.self w.next) c.in-Ok.turned c.if-self.false w.turned w.went_is, w.stands))

pub returns-in-Err : goal.returns-in-Err
returns-in-Err c = steps_on c.args.self.now c.fail.new.self Turn _ (λ f x.
    let failed = c.fail.ensures.failed in
    let kept = c.in-Err.ensures.err in (
      None,
      turn_wants (conn_of c.args.self.now f) (conn_of c.fail.new.self None) c.if-self.false (c.in-Err.ensures.wants f x)
          (record {
            failed = failed.failed;
            output = failed.output ∙ kept.0;
            closed = failed.closed ∙ kept.1;
            ended = failed.ended ∙ kept.2;
            rest = failed.rest;
            waiting = failed.waiting;
            flight = refl;
          }),
      none_in_flight c.fail.new.self.flight c.fail.ensures.flight,
    ))
