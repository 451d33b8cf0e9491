use Rattle.std.proofs.Common.{◌≡◌, ℕ, ◌<◌, get_or}
use Rattle.row_eval.specs.declared.truth.Truth.TheVariants.{False}
use Rattle.text_kernels.proofs.codes.spread_each.Given as goal

abbrev pub invariant-loop-row : goal.invariant-loop-row
invariant-loop-row l = (k : ℕ) → k < l.row → get_or l.out k False ≡ get_or l.answers (get_or l.codes k 0) False
