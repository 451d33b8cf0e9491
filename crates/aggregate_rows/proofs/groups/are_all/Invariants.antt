use Rattle.std.proofs.Common.{◌≡◌, ℕ, ◌<◌, get_or}
use Rattle.aggregate_rows.proofs.groups.are_all.Given as goal

-- the first places are those numbers
abbrev pub invariant-loop-i : goal.invariant-loop-i
invariant-loop-i l = (j : ℕ) → j < l.i → get_or l.shown j 0 ≡ j
