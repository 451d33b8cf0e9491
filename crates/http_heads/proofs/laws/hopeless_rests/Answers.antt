use Rattle.http_heads.proofs.HopelessLemmas.{all_rests}
use Rattle.http_heads.proofs.laws.hopeless_rests.Goals as goal

pub returns : goal.returns
returns c = all_rests
