use Rattle.std.proofs.Common.{◌≡◌, take}
use Rattle.row_selection.proofs.selection.Selection.of_numbers.Given as goal

-- the numbers so far
abbrev pub invariant-loop-number : goal.invariant-loop-number
invariant-loop-number l = l.rows.items ≡ take l.number-index l.numbers
