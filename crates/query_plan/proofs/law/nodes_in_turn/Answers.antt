use Rattle.std.proofs.Common.{refl}
use Rattle.query_plan.proofs.PlanLemmas.{above_fit, below_fit, both_fit, turn}
use Rattle.query_plan.proofs.law.nodes_in_turn.Goals as goal

pub returns : goal.returns
returns c = record { empty = λ r. refl; turn = turn; below_fit = below_fit; above_fit = above_fit; both_fit = both_fit }
