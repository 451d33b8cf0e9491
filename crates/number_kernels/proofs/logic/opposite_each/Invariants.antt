use Rattle.std.proofs.Common.{◌≡◌, ℕ, ◌<◌, ◌≤◌, get_or}
use Rattle.row_eval.specs.declared.truth.Truth.TheVariants.{False}
use Rattle.row_eval.specs.Logic.{opposite}
use Rattle.number_kernels.proofs.logic.opposite_each.Given as goal

abbrev pub invariant-loop-i : goal.invariant-loop-i
invariant-loop-i l =
    ((k : ℕ) → k < l.i → get_or l.truths k False ≡ opposite (get_or l.initial.truths k False))
    × ((k : ℕ) → l.i ≤ k → get_or l.truths k False ≡ get_or l.initial.truths k False)
