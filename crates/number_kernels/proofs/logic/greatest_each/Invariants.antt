use Rattle.std.proofs.Common.{◌≡◌, ℕ, ◌<◌, ◌≤◌, get_or}
use Rattle.row_eval.specs.declared.truth.Truth.TheVariants.{False}
use Rattle.row_eval.specs.Logic.{greatest}
use Rattle.number_kernels.proofs.logic.greatest_each.Given as goal

abbrev pub invariant-loop-i : goal.invariant-loop-i
invariant-loop-i l =
    ((k : ℕ) → k < l.i → get_or l.left k False ≡ greatest (get_or l.initial.left k False) (get_or l.right k False))
    × ((k : ℕ) → l.i ≤ k → get_or l.left k False ≡ get_or l.initial.left k False)
