use Rattle.http_heads.proofs.CutLemmas.{all_join}
use Rattle.http_heads.proofs.laws.cuts_join.Goals as goal

pub returns : goal.returns
returns c = all_join
