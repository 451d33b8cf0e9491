use Rattle.std.proofs.Common.{◌≡◌, ℕ, ◌<◌, ◌≤◌, not, false, get_or}
use Rattle.frame_of_reference.proofs.marks.turn_each.Given as goal

abbrev pub invariant-loop-i : goal.invariant-loop-i
invariant-loop-i l =
    ((k : ℕ) → k < l.i → get_or l.out k false ≡ not (get_or l.initial.out k false))
    × ((k : ℕ) → l.i ≤ k → get_or l.out k false ≡ get_or l.initial.out k false)
