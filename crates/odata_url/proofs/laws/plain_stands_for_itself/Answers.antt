use Rattle.odata_url.proofs.LawLemmas.{octets_of-plain}
use Rattle.odata_url.proofs.laws.plain_stands_for_itself.Goals as goal

pub returns : goal.returns
returns c = octets_of-plain
