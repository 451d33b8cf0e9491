use Rattle.http_heads.proofs.CutFinds.{one_for_all}
use Rattle.http_heads.proofs.laws.one_cut.Goals as goal

pub returns : goal.returns
returns c = one_for_all
