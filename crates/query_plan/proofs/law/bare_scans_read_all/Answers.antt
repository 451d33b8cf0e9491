use Rattle.query_plan.proofs.ScanLemmas.{bare_scans_read_all}
use Rattle.query_plan.proofs.law.bare_scans_read_all.Goals as goal

pub returns : goal.returns
returns c = bare_scans_read_all
