use Rattle.odata_hub.proofs.LawLemmas.{brings_reply}
use Rattle.odata_hub.proofs.laws.brings_reply.Goals as goal

pub returns : goal.returns
returns c = brings_reply c.one_length.ensures
