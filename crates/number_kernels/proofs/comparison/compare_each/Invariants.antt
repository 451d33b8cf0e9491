use Rattle.std.proofs.Common.{◌≡◌, ℕ, ◌<◌, get_or}
use Rattle.row_eval.specs.declared.truth.Truth.TheVariants.{False}
use Rattle.number_kernels.specs.Lanes.{comparison}
use Rattle.number_kernels.specs.Operands.{operand_lane}
use Rattle.number_kernels.proofs.comparison.compare_each.Given as goal

abbrev pub invariant-loop-i : goal.invariant-loop-i
invariant-loop-i l = (k : ℕ) → k < l.i → get_or l.out k False ≡ comparison l.operator (operand_lane l.left k) (operand_lane l.right k)
