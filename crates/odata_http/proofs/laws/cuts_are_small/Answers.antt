use Rattle.odata_http.proofs.HeadLemmas.{cut_small}
use Rattle.odata_http.proofs.laws.cuts_are_small.Goals as goal

pub returns : goal.returns
returns c = cut_small c.head_limits.ensures.0
