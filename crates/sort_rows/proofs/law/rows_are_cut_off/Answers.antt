use Rattle.sort_rows.proofs.CutoffLemmas.{rows_are_cut_off_lem}
use Rattle.sort_rows.proofs.law.rows_are_cut_off.Goals as goal

pub returns : goal.returns
returns c = rows_are_cut_off_lem c.values_are_ordered.ensures.total c.rows_are_in_order.ensures
