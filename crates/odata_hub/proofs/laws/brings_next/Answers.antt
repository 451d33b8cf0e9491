use Rattle.odata_hub.proofs.LawLemmas.{brings_next}
use Rattle.odata_hub.proofs.laws.brings_next.Goals as goal

pub returns : goal.returns
returns c = brings_next c.one_length.ensures
