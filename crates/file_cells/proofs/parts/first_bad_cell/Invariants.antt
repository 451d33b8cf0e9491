use Rattle.std.proofs.Common.{◌≡◌, ◌+◌, drop, map}
use Rattle.cell_types.specs.Column.{column_view}
use Rattle.file_cells.specs.Rows.{wrong_of}
use Rattle.file_cells.proofs.parts.first_bad_cell.Given as goal

-- nothing is wrong so far
abbrev pub invariant-loop-row : goal.invariant-loop-row
invariant-loop-row l = wrong_of (l.first + l.row) (map column_view l.columns) (drop l.row l.part.rows) ≡ wrong_of l.first (map column_view l.columns) l.part.rows
