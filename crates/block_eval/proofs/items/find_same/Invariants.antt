use Rattle.std.proofs.Common.{◌≡◌, ◌<◌, ℕ}
use Rattle.block_eval.specs.Lanes.{truth_lane}
use Rattle.block_eval.proofs.items.find_same.Given as goal

-- the truths of the rows so far
abbrev pub invariant-loop-row : goal.invariant-loop-row
invariant-loop-row l = (k : ℕ) → k < l.row → truth_lane l.out k ≡ l.found
