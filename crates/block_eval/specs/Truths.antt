-- Truths of a block by their numbers: false is 0, and true 1.
use Rattle.std.specs.Prelude.{◌≡◌, ◌<◌, ℕ, List, length, option_map}
use Rattle.row_eval.specs.declared.truth.Truth.{Truth}
use Rattle.std.specs.Ordering.{bool_cmp}
use Rattle.cell_types.specs.Kind.{number_of_truth}
use Rattle.cell_types.specs.declared.comparison.ComparisonOperator.{ComparisonOperator}
use Rattle.row_eval.specs.Comparison.{compared, holds}
use Rattle.row_eval.specs.Logic.{option_of_truth, truth_of}
use Rattle.number_kernels.specs.declared.numbers.Numbers.{Numbers}
use Rattle.block_eval.specs.Lanes.{number_lane, truth_lane, AreLong}

-- what a comparison says of two truths
abbrev pub truth_comparison : ComparisonOperator → Truth → Truth → Truth
truth_comparison o x y = truth_of (holds o (compared bool_cmp (option_of_truth x) (option_of_truth y)))

-- the lanes are the numbers of truths, and null where these are null
pub record AreTruthNumbers (truths : List Truth) (v : Numbers) : Type 0 where
  pub each : (row : ℕ) → row < length truths → number_lane v row ≡ option_map number_of_truth (option_of_truth (truth_lane truths row))
  pub long : AreLong (length truths) v
