use Rattle.std.proofs.Common.{refl}
use Rattle.std.specs.Fmt.{digits}
use Rattle.service_log.proofs.work.worked_minute.Goals as goal

pub returns : goal.returns
unfolding digits
returns c = record { sent = refl; turns = refl; next = refl; line = refl }
