use Rattle.http_heads.proofs.RestLemmas.{rest_empty}
use Rattle.http_heads.proofs.splitter.Splitter.new.Goals as goal

pub invariant_of-result : goal.invariant_of-result
invariant_of-result c = rw c.new.ensures.items rest_empty
