use Rattle.odata_http.proofs.LengthLemmas.{one_length}
use Rattle.odata_http.proofs.laws.one_length.Goals as goal

pub returns : goal.returns
returns c = one_length c.one_request.ensures c.plans_need_blocks.ensures
