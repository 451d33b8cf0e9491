use Rattle.std.proofs.Common.{◌≡◌, ℕ, ◌<◌, get_or, true}
use Rattle.std.specs.Prelude.{pos}
use Rattle.row_eval.specs.declared.truth.Truth.TheVariants.{False}
use Rattle.number_kernels.specs.Lanes.{truth_in}
use Rattle.number_kernels.proofs.logic.truth_each.Given as goal

abbrev pub invariant-loop-i : goal.invariant-loop-i
invariant-loop-i l = (k : ℕ) → k < l.i → get_or l.out k False ≡ truth_in (get_or l.nulls k true) (get_or l.values k (pos 0))
