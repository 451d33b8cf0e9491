use Rattle.std.proofs.Common.{ap}
use Rattle.service_log.specs.declared.log.Tally.{Tally}
use Rattle.odata_listen.proofs.endings.linger.Goals as goal

pub returns-clause-work : goal.returns-clause-work
returns-clause-work c = ap (λ (tally : Tally). tally.work) c.ended.ensures.tally_is
