use Rattle.std.proofs.Common.{◌≡◌, ℕ, ◌<◌, true}
use Rattle.std.specs.Prelude.{unsigned_abs}
use Rattle.number_kernels.specs.Operands.{lane_value}
use Rattle.number_kernels.proofs.arithmetic.each_below.Given as goal

abbrev pub invariant-loop-i : goal.invariant-loop-i
invariant-loop-i l = l.below ≡ true → (k : ℕ) → k < l.i → unsigned_abs (lane_value l.operand k) < l.limit
