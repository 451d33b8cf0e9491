use Rattle.query_plan.proofs.NeededLemmas.{needed_blocks_are_read}
use Rattle.query_plan.proofs.law.needed_blocks_are_read.Goals as goal

pub returns : goal.returns
returns c = needed_blocks_are_read
