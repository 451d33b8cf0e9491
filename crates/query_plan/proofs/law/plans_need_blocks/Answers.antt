use Rattle.query_plan.proofs.NeededLemmas.{plans_need_blocks}
use Rattle.query_plan.proofs.law.plans_need_blocks.Goals as goal

pub returns : goal.returns
returns c = plans_need_blocks
