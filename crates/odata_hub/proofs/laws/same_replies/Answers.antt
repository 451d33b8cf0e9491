use Rattle.odata_hub.proofs.SameLemmas.{same_replies}
use Rattle.odata_hub.proofs.laws.same_replies.Goals as goal

pub returns : goal.returns
returns c = same_replies c.one_cut.ensures c.cuts_join.ensures
