use Rattle.std.proofs.Common.{◌≡◌, ℕ, ◌<◌, ◌||◌, get_or, true}
use Rattle.number_kernels.specs.Operands.{null_at}
use Rattle.number_kernels.proofs.arithmetic.either_null_each.Given as goal

abbrev pub invariant-loop-i : goal.invariant-loop-i
invariant-loop-i l = (k : ℕ) → k < l.i → get_or l.out k true ≡ (null_at l.left k || null_at l.right k)
