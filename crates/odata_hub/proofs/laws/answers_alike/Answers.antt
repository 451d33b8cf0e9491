use Rattle.odata_hub.proofs.LawLemmas.{answers_alike}
use Rattle.odata_hub.proofs.laws.answers_alike.Goals as goal

pub returns : goal.returns
returns c = answers_alike c.one_cut.ensures c.one_reply.ensures c.one_length.ensures
