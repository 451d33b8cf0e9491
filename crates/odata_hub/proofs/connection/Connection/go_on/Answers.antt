use Rattle.std.proofs.Common.{Some, subst, sym}
use Rattle.odata_hub.specs.declared.answers.Turned.TheVariants.{Worked}
use Rattle.odata_hub.specs.declared.connection.Connection.{Connection}
use Rattle.odata_hub.specs.Work.{IsWorked}
use Rattle.odata_hub.proofs.WorkLemmas.{worked_on, worked_over}
use Rattle.odata_hub.proofs.connection.Connection.go_on.Goals as goal

pub returns-in-On-clause-ok : goal.returns-in-On-clause-ok
returns-in-On-clause-ok c = λ f x.
    subst (λ (s : Connection). IsWorked c.args.self.now (Some f) Worked s) (sym c.set_flight.ensures)
    (worked_on c.args.self.now _ _ f (c.in_ok-flight.ensures f x) c.in-On.is)

pub returns-in_ok-give_reply-in-Replied-clause-ok : goal.returns-in_ok-give_reply-in-Replied-clause-ok
returns-in_ok-give_reply-in-Replied-clause-ok c = λ f x.
    subst (λ (s : Connection). IsWorked c.args.self.now (Some f) Worked s) (sym c.set_flight-in-Replied.ensures)
    (worked_over c.args.self.now _ c.in-Replied.reply c.give_reply.new.self f (c.in_ok-flight.ensures f x) c.in-Replied.is c.in_ok-give_reply-in-Replied.ensures.added)
