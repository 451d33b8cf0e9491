use Rattle.std.proofs.Common.{◌≡◌, [], get_or}
use Rattle.file_cells.proofs.RowLemmas.{wrong_from}
use Rattle.file_cells.proofs.parts.bad_in_row.Given as goal

-- nothing is wrong so far
abbrev pub invariant-loop-col : goal.invariant-loop-col
invariant-loop-col l = wrong_from l.col l.columns (get_or l.part.rows l.row []) ≡ wrong_from 0 l.columns (get_or l.part.rows l.row [])
