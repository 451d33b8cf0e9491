use Rattle.std.proofs.Common.{◌≡◌}
use Rattle.row_selection.specs.Numbers.{numbers_from}
use Rattle.row_selection.proofs.selection.first_numbers.Given as goal

-- the numbers so far
abbrev pub invariant-loop-number : goal.invariant-loop-number
invariant-loop-number l = l.numbers.items ≡ numbers_from 0 l.number
