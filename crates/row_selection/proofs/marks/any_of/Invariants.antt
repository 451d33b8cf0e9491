use Rattle.std.proofs.Common.{◌≡◌, ℕ, ◌<◌, false, get_or}
use Rattle.row_selection.proofs.marks.any_of.Given as goal

-- if none was true so far, none of the marks before a place is
abbrev pub invariant-loop-place : goal.invariant-loop-place
invariant-loop-place l = l.any ≡ false → (k : ℕ) → k < l.place → get_or l.marks k false ≡ false
