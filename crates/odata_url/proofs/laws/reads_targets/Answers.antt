use Rattle.odata_url.proofs.ReadLemmas.{target_of-IsTarget}
use Rattle.odata_url.proofs.laws.reads_targets.Goals as goal

pub returns : goal.returns
returns c = target_of-IsTarget
