use Rattle.sort_rows.proofs.BestLemmas.{best_in_pieces_lem}
use Rattle.sort_rows.proofs.law.best_in_pieces.Goals as goal

pub returns : goal.returns
returns c = best_in_pieces_lem c.values_are_ordered.ensures.total c.rows_are_in_order.ensures
