use Rattle.http_heads.proofs.RestLemmas.{rest_empty}
use Rattle.http_heads.proofs.splitter.Splitter.end.Goals as goal

pub invariant_of-self : goal.invariant_of-self
invariant_of-self c = rw c.clear.ensures.items rest_empty
