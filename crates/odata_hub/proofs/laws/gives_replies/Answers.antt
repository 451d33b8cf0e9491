use Rattle.odata_hub.proofs.LawLemmas.{gives_replies}
use Rattle.odata_hub.proofs.laws.gives_replies.Goals as goal

pub returns : goal.returns
returns c = gives_replies c.one_cut.ensures c.cuts_join.ensures c.one_reply.ensures
