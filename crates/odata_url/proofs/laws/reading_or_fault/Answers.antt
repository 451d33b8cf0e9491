use Rattle.odata_url.proofs.CauseLemmas.{target_of-either}
use Rattle.odata_url.proofs.laws.reading_or_fault.Goals as goal

pub returns : goal.returns
returns c = target_of-either
