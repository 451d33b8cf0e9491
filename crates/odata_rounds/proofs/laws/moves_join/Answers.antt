use Rattle.odata_rounds.proofs.LawLemmas.{moves_join}
use Rattle.odata_rounds.proofs.laws.moves_join.Goals as goal

pub returns : goal.returns
returns c = moves_join
