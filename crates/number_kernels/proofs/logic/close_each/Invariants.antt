use Rattle.std.proofs.Common.{◌≡◌, ◌≢◌, ℕ, ◌<◌, ◌≤◌, get_or, true, false}
use Rattle.row_eval.specs.declared.truth.Truth.TheVariants.{False}
use Rattle.number_kernels.proofs.logic.close_each.Given as goal

abbrev pub invariant-loop-i : goal.invariant-loop-i
invariant-loop-i l =
    ((k : ℕ) → k < l.i → get_or l.initial.wanted k false ≡ true → get_or l.truths k False ≢ l.closed → get_or l.wanted k false ≡ true)
    × ((k : ℕ) → k < l.i → get_or l.wanted k false ≡ true → (get_or l.initial.wanted k false ≡ true) × (get_or l.truths k False ≢ l.closed))
    × ((k : ℕ) → l.i ≤ k → get_or l.wanted k false ≡ get_or l.initial.wanted k false)
