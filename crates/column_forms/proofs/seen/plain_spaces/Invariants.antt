use Rattle.std.proofs.Common.{ℕ, List, ◌++◌, length}
use Rattle.column_forms.specs.CellsSeen.{HasPlainSpaces}
use Rattle.column_forms.proofs.seen.plain_spaces.Given as goal

-- what is made, and what is made of the rest, is the cell with plain spaces
abbrev pub invariant-loop-byte : goal.invariant-loop-byte
invariant-loop-byte l = (more : List ℕ) → HasPlainSpaces l.left more → HasPlainSpaces l.cell (l.made.items ++ more)

abbrev pub decreases-loop-byte : goal.decreases-loop-byte
decreases-loop-byte l = length l.left
