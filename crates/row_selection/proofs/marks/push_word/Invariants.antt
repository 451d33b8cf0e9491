use Rattle.std.proofs.Common.{◌≡◌, ◌++◌, length}
use Rattle.row_selection.specs.Marks.{bit_numbers}
use Rattle.row_selection.proofs.marks.push_word.Given as goal

-- what came, and the bits that are left, are what was there and all bits
abbrev pub invariant-loop-left : goal.invariant-loop-left
invariant-loop-left l = l.numbers.items ++ bit_numbers l.start l.left 64 ≡ l.fn.numbers.items ++ bit_numbers l.start l.word 64

abbrev pub decreases-loop-left : goal.decreases-loop-left
decreases-loop-left l = length (bit_numbers l.start l.left 64)
