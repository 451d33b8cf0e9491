use Rattle.odata_http.specs.Reply.{IsReply}
use Rattle.odata_http.proofs.RepliesLemmas.{hopeless_end}
use Rattle.odata_http.proofs.laws.hopeless_ends.Goals as goal

pub returns : goal.returns
returns c = λ catalog. hopeless_end (IsReply catalog) c.hopeless_rests.ensures
