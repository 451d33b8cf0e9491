use Rattle.odata_hub.proofs.WorkLemmas.{flight_found, none_found, worked_none, worked_taken}
use Rattle.odata_hub.proofs.connection.Connection.work.Goals as goal

pub returns-in-Some-clause-ok : goal.returns-in-Some-clause-ok
returns-in-Some-clause-ok c =
    worked_taken c.args.self.now c.go_on.new.self c.in-Some.flight c.take.result c.take.new.self c.go_on.result c.take.ensures.value c.in-Some.is c.go_on.ensures.ok

pub returns-in-None-clause-ok : goal.returns-in-None-clause-ok
returns-in-None-clause-ok c =
    worked_none c.args.self.now c.begin_next.new.self c.take.result c.take.new.self c.begin_next.result c.take.ensures.value c.in-None.is
    (c.begin_next.ensures.ok c.take.ensures.after)

pub returns-in-Some-clause-wants : goal.returns-in-Some-clause-wants
returns-in-Some-clause-wants c = flight_found c.args.self.now c.in-Some.flight c.take.result c.go_on.result c.take.ensures.value c.in-Some.is

pub returns-in-None-clause-wants : goal.returns-in-None-clause-wants
returns-in-None-clause-wants c =
    none_found c.args.self.now c.take.result c.begin_next.result c.take.ensures.value c.in-None.is c.begin_next.ensures.wants
