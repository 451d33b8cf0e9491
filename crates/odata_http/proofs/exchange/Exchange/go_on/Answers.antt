use Rattle.std.proofs.Common.{subst, sym}
use Rattle.odata_http.specs.Work.{MayWork}
use Rattle.odata_http.proofs.WorkLemmas.{goes_to}
use Rattle.odata_http.proofs.exchange.Exchange.go_on.Goals as goal

pub returns-clause-goes_on : goal.returns-clause-goes_on
returns-clause-goes_on c = λ head left a.
    let works = c.in_ok-work.ensures.works a.request left (rw c.replace-work.ensures.value a.work) in
    goes_to c.args.catalog.now head left c.args.self.now c.in_ok-work.work c.replace.new.dest c.step-step.result c.replace.ensures.after c.step-step.ensures a works

pub go_on-requires : goal.go_on-requires
go_on-requires c = subst (MayWork c.args.catalog.now) (sym c.replace-work.ensures.value) c.requires
