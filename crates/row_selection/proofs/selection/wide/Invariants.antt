use Rattle.std.proofs.Common.{◌≡◌, take}
use Rattle.row_selection.proofs.selection.wide.Given as goal

-- the numbers so far
abbrev pub invariant-loop-row : goal.invariant-loop-row
invariant-loop-row l = l.numbers.items ≡ take l.row-index l.rows
