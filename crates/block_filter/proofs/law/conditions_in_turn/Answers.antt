use Rattle.block_filter.proofs.ConditionLemmas.{in_turn}
use Rattle.block_filter.proofs.law.conditions_in_turn.Goals as goal

pub returns : goal.returns
returns c = in_turn c.true_rows_pass.ensures
