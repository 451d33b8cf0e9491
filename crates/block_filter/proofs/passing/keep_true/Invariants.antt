use Rattle.std.proofs.Common.{◌≡◌, ℕ, ◌<◌, ◌≤◌, ◌&&◌, false, get_or}
use Rattle.block_eval.specs.Lanes.{truth_lane}
use Rattle.block_filter.specs.Marks.{keeps_row}
use Rattle.block_filter.proofs.passing.keep_true.Given as goal

-- the first rows are wanted still where their truth is true, and the others as they were
abbrev pub invariant-loop-row : goal.invariant-loop-row
invariant-loop-row l =
    ((k : ℕ) → k < l.row → get_or l.wanted k false ≡ (get_or l.fn.wanted k false && keeps_row (truth_lane l.truths k)))
    × ((k : ℕ) → l.row ≤ k → get_or l.wanted k false ≡ get_or l.fn.wanted k false)
