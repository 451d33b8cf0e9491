use Rattle.odata_http.specs.Reply.{IsReply}
use Rattle.odata_http.proofs.ReplyLemmas.{one_reply}
use Rattle.odata_http.proofs.RepliesLemmas.{one_list}
use Rattle.odata_http.proofs.laws.one_reading.Goals as goal

pub returns : goal.returns
returns c = λ catalog. one_list (IsReply catalog) c.one_cut.ensures (one_reply c.one_request.ensures catalog)
