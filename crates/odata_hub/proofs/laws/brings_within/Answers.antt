use Rattle.odata_hub.proofs.LawLemmas.{brings_within}
use Rattle.odata_hub.proofs.laws.brings_within.Goals as goal

pub returns : goal.returns
returns c = brings_within c.one_length.ensures
