use Rattle.odata_rounds.proofs.LifeLemmas.{lives_move}
use Rattle.odata_rounds.proofs.laws.lives_move.Goals as goal

pub returns : goal.returns
returns c = lives_move
