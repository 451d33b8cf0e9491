use Rattle.std.proofs.Common.{◌≡◌, ℕ, ◌<◌, Some, get_or, true, false}
use Rattle.std.specs.Prelude.{pos}
use Rattle.row_eval.specs.Outcome.{operation}
use Rattle.number_kernels.specs.Arithmetic.{operator_of_quotient}
use Rattle.number_kernels.specs.Operands.{lane_value}
use Rattle.number_kernels.proofs.division.divide_each.Given as goal

abbrev pub invariant-loop-i : goal.invariant-loop-i
invariant-loop-i l = (k : ℕ) → k < l.i → get_or l.wanted k false ≡ true → get_or l.sides.nulls.now k true ≡ false → operation (operator_of_quotient l.operator) (lane_value l.sides.left k) (lane_value l.sides.right k) ≡ Some (get_or l.out k (pos 0))
