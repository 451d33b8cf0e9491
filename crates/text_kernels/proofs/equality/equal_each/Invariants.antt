use Rattle.std.proofs.Common.{◌≡◌, ℕ, ◌<◌, Some, get_or}
use Rattle.cell_types.specs.Value.{null}
use Rattle.cell_types.specs.declared.comparison.ComparisonOperator.TheVariants.{Equal}
use Rattle.row_eval.specs.declared.truth.Truth.TheVariants.{False}
use Rattle.row_eval.specs.Row.{text_in}
use Rattle.text_kernels.specs.declared.relation.TextRelation.TheVariants.{Comparison}
use Rattle.text_kernels.specs.Texts.{related}
use Rattle.text_kernels.proofs.equality.equal_each.Given as goal

abbrev pub invariant-loop-row : goal.invariant-loop-row
invariant-loop-row l = (k : ℕ) → k < l.row → get_or l.out k False ≡ related (Comparison Equal) (text_in (get_or l.texts k null)) (Some l.other)
