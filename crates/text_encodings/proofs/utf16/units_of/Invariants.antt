use Rattle.std.proofs.Common.{ℕ, List, ◌++◌, length}
use Rattle.text_encodings.specs.Encodings.{AreUnits}
use Rattle.text_encodings.proofs.utf16.units_of.Given as goal

-- whatever units the bytes that are left are, after the units so far these are the units of all
abbrev pub invariant-loop-left : goal.invariant-loop-left
invariant-loop-left l = (more : List ℕ) → AreUnits l.order l.left more → AreUnits l.order l.bytes (l.units.items ++ more)

abbrev pub decreases-loop-left : goal.decreases-loop-left
decreases-loop-left l = length l.left
