use Rattle.std.proofs.Common.{◌≡◌, ℕ, ◌<◌, ◌≤◌, ◌&&◌, not, false, get_or}
use Rattle.frame_of_reference.proofs.marks.unmark_nulls.Given as goal

abbrev pub invariant-loop-i : goal.invariant-loop-i
invariant-loop-i l =
    ((k : ℕ) → k < l.i → get_or l.out k false ≡ (get_or l.initial.out k false && not (get_or l.nulls k false)))
    × ((k : ℕ) → l.i ≤ k → get_or l.out k false ≡ get_or l.initial.out k false)
