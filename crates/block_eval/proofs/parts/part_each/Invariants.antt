use Rattle.std.proofs.Common.{◌≡◌, ◌<◌, ◌≤◌, ℕ, get_or}
use Rattle.std.specs.Prelude.{pos}
use Rattle.block_eval.specs.Parts.{day_part}
use Rattle.block_eval.proofs.parts.part_each.Given as goal

-- the parts of the days so far, and the days that are left
abbrev pub invariant-loop-i : goal.invariant-loop-i
invariant-loop-i l = ((k : ℕ) → k < l.i → get_or l.days k (pos 0) ≡ day_part l.part (get_or l.initial.days k (pos 0))) × ((k : ℕ) → l.i ≤ k → get_or l.days k (pos 0) ≡ get_or l.initial.days k (pos 0))
