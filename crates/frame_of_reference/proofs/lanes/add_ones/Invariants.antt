use Rattle.std.proofs.Common.{◌≡◌, ℕ, ◌<◌, get_or}
use Rattle.std.specs.Prelude.{pos, ◌+ℤ◌}
use Rattle.frame_of_reference.proofs.lanes.add_ones.Given as goal

abbrev pub invariant-loop-i : goal.invariant-loop-i
invariant-loop-i l = (k : ℕ) → k < l.i → get_or l.out k (pos 0) ≡ l.least +ℤ pos (get_or l.offsets k 0)
