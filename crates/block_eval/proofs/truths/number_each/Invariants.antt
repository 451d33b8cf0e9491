use Rattle.std.proofs.Common.{◌≡◌, ◌<◌, ℕ, get_or}
use Rattle.std.specs.Prelude.{option_map}
use Rattle.row_eval.specs.declared.truth.Truth.TheVariants.{False}
use Rattle.row_eval.specs.Logic.{option_of_truth}
use Rattle.block_eval.specs.Columns.{number_at}
use Rattle.cell_types.specs.Kind.{number_of_truth}
use Rattle.block_eval.proofs.truths.number_each.Given as goal

abbrev pub invariant-loop-i : goal.invariant-loop-i
invariant-loop-i l = (k : ℕ) → k < l.i → number_at l.values l.nulls k ≡ option_map number_of_truth (option_of_truth (get_or l.truths k False))
