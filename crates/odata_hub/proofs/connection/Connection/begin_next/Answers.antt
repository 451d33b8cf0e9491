use Rattle.std.proofs.Common.{None, refl, subst, sym}
use Rattle.odata_hub.specs.declared.answers.Turned.TheVariants.{Worked}
use Rattle.odata_hub.specs.declared.connection.Connection.{Connection}
use Rattle.odata_hub.specs.Work.{IsWorked}
use Rattle.odata_hub.proofs.WorkLemmas.{worked_begun}
use Rattle.odata_hub.proofs.connection.Connection.begin_next.Goals as goal

pub returns-in_ok-flight-in-Some-clause-ok : goal.returns-in_ok-flight-in-Some-clause-ok
returns-in_ok-flight-in-Some-clause-ok c = λ none.
    subst (λ (s : Connection). IsWorked c.args.self.now None Worked s) (sym c.set_flight.ensures)
    (worked_begun c.args.self.now _ c.in-Some.next c.in_ok-flight-in-Some.flight c.in-Some.ensures.items refl (λ g. refl) c.in_ok-flight-in-Some.ensures)
