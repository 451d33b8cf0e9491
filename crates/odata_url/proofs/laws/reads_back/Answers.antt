use Rattle.odata_url.proofs.PrintedLemmas.{target_of-printed}
use Rattle.odata_url.proofs.laws.reads_back.Goals as goal

pub returns : goal.returns
returns c = target_of-printed
