use Rattle.odata_rounds.proofs.LawLemmas.{visit_moves}
use Rattle.odata_rounds.proofs.laws.visit_moves.Goals as goal

pub returns : goal.returns
returns c = visit_moves
