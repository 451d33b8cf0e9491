use Rattle.table_store.proofs.FirstBadCell.{first_bad_cell}
use Rattle.table_store.proofs.laws.first_bad_cell_is_first.Goals as goal

pub returns : goal.returns
returns c = first_bad_cell
