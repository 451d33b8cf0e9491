use Rattle.odata_http.specs.Reply.{IsReply}
use Rattle.odata_http.proofs.RepliesLemmas.{all_join}
use Rattle.odata_http.proofs.laws.joins.Goals as goal

pub returns : goal.returns
returns c = λ catalog. all_join (IsReply catalog) c.cuts_join.ensures
