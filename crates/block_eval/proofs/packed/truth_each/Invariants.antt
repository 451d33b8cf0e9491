use Rattle.std.proofs.Common.{◌≡◌, ℕ, ◌<◌, false, get_or}
use Rattle.row_eval.specs.declared.truth.Truth.TheVariants.{False}
use Rattle.row_eval.specs.Logic.{truth_of}
use Rattle.block_eval.proofs.packed.truth_each.Given as goal

abbrev pub invariant-loop-i : goal.invariant-loop-i
invariant-loop-i l = (k : ℕ) → k < l.i → get_or l.out k False ≡ truth_of (get_or l.marks k false)
