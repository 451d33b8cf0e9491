use Rattle.query_plan.proofs.ScanLemmas.{none_unadmitted}
use Rattle.query_plan.proofs.law.unadmitted_blocks_pass_none.Goals as goal

pub returns : goal.returns
returns c = none_unadmitted c.one_range.ensures c.skips_nothing.ensures
