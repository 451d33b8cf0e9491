use Rattle.std.proofs.Common.{◌≡◌, ℕ, ◌<◌, get_or, w64}
use Rattle.std.specs.Prelude.{pos, FitsSigned}
use Rattle.number_kernels.specs.Arithmetic.{exact}
use Rattle.number_kernels.specs.Operands.{lane_value}
use Rattle.number_kernels.proofs.arithmetic.compute_each.Given as goal

abbrev pub invariant-loop-i : goal.invariant-loop-i
invariant-loop-i l = (k : ℕ) → k < l.i → FitsSigned w64 (exact l.operator (lane_value l.left k) (lane_value l.right k))
    → get_or l.out k (pos 0) ≡ exact l.operator (lane_value l.left k) (lane_value l.right k)
