use Rattle.table_store.proofs.FirstMismatch.{first_mismatch}
use Rattle.table_store.proofs.laws.first_mismatch_is_first.Goals as goal

pub returns : goal.returns
returns c = first_mismatch
