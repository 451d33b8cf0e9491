use Rattle.odata_http.proofs.ReplyLemmas.{one_reply}
use Rattle.odata_http.proofs.laws.one_reply.Goals as goal

pub returns : goal.returns
returns c = one_reply c.one_request.ensures
