use Rattle.std.proofs.Common.{refl}
use Rattle.query_plan.proofs.UpToLemmas.{front, read_where}
use Rattle.query_plan.proofs.law.blocks_up_to_the_stop.Goals as goal

pub returns : goal.returns
returns c = record { front = front; every = λ tests conditions rows. refl; reached = read_where }
