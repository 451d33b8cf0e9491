use Rattle.std.proofs.Common.{◌≡◌, ◌≤◌, length}
use Rattle.file_cells.proofs.HeaderLemmas.{other_from}
use Rattle.file_cells.proofs.header.first_mismatch.Given as goal

-- the cells so far match
abbrev pub invariant-loop-col : goal.invariant-loop-col
invariant-loop-col l =
    (l.col ≤ length l.file.header) × (other_from l.col l.columns l.file.header ≡ other_from 0 l.columns l.file.header)
