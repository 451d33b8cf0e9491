use Rattle.odata_http.proofs.WorkLemmas.{starts_listing, starts_refusal}
use Rattle.odata_http.proofs.work.Work.start.Goals as goal

pub returns-in-Refused : goal.returns-in-Refused
returns-in-Refused c = rw c.in-Refused.is (starts_refusal c.args.catalog.now c.in-Refused.code)

pub returns-in-Service : goal.returns-in-Service
returns-in-Service c = rw c.in-Service.is (starts_listing c.args.catalog.now)
