use Rattle.std.proofs.Common.{◌≡◌, ℕ, ◌<◌, get_or, false}
use Rattle.cell_types.specs.Value.{null}
use Rattle.row_eval.specs.declared.truth.Truth.TheVariants.{False}
use Rattle.row_eval.specs.Row.{text_in}
use Rattle.text_kernels.specs.Texts.{marked_truth}
use Rattle.text_kernels.proofs.search.truth_each.Given as goal

abbrev pub invariant-loop-row : goal.invariant-loop-row
invariant-loop-row l = (k : ℕ) → k < l.row → get_or l.out k False ≡ marked_truth (get_or l.marks k false) (text_in (get_or l.texts k null))
