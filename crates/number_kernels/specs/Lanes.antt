-- What vectors have for the rows of a block: a lane for each row.
use Rattle.std.specs.Prelude.{◌≡◌, ◌≢◌, ◌<◌, ℕ, ℤ, pos, Bool, true, false, Option, None, Some, List, length, slice_index_or, FitsSigned, IfSome, IsTrue}
use Rattle.std.specs.Int.{w64}
use Rattle.std.specs.Ordering.{int_cmp, int_eq}
use Rattle.typed_trees.specs.declared.operator.ArithmeticOperator.{ArithmeticOperator}
use Rattle.cell_types.specs.declared.comparison.ComparisonOperator.{ComparisonOperator}
use Rattle.row_eval.specs.declared.truth.Truth.{Truth}
use Rattle.row_eval.specs.declared.truth.Truth.TheVariants.{False, Null as NullTruth}
use Rattle.row_eval.specs.Logic.{truth_of}
use Rattle.row_eval.specs.Comparison.{compared, holds}
use Rattle.row_eval.specs.Outcome.{computed, operation}
use Rattle.number_kernels.specs.declared.numbers.Numbers.{Numbers}
use Rattle.number_kernels.specs.declared.numbers.Numbers.TheVariants.{Null, Same, Cells, Computed}

-- a row is wanted
abbrev pub IsWanted : List Bool → ℕ → Type 0
IsWanted wanted row = IsTrue (slice_index_or wanted row false)

-- ---- numbers

-- a number, unless it is null
abbrev pub unless_null : Bool → ℤ → Option ℤ
unless_null true n = None
unless_null false n = Some n

-- the number of a row among numbers and marks of nulls
abbrev pub number_at : List ℤ → List Bool → ℕ → Option ℤ
number_at values nulls row = unless_null (slice_index_or nulls row true) (slice_index_or values row (pos 0))

abbrev pub number_lane : Numbers → ℕ → Option ℤ
number_lane Null row = None
number_lane (Same n) row = Some n
number_lane (Cells values nulls) row = number_at values.now nulls.now row
number_lane (Computed values nulls) row = number_at values.items nulls.items row

-- what the vector has for each row is there for all rows
abbrev pub AreLong : ℕ → Numbers → Type 0
AreLong rows Null = Unit {0}
AreLong rows (Same n) = Unit {0}
AreLong rows (Cells values nulls) = (length values.now ≡ rows) × (length nulls.now ≡ rows)
AreLong rows (Computed values nulls) = (length values.items ≡ rows) × (length nulls.items ≡ rows)

-- on each wanted row the lane is what the operator makes of those of two vectors, which is no fault
pub record AreComputed (o : ArithmeticOperator) (left right : Numbers) (wanted : List Bool) (v : Numbers) : Type 0 where
  pub each : (row : ℕ) → IsWanted wanted row → computed o (number_lane left row) (number_lane right row) ≡ Some (number_lane v row)
  pub long : AreLong (length wanted) v

-- what an operator makes of two lanes fits 64 bits, where it makes a number of them
abbrev pub LanesFit : ArithmeticOperator → Option ℤ → Option ℤ → Type 0
LanesFit o (Some a) (Some b) = IfSome (operation o a b) (FitsSigned w64)
LanesFit o _ _ = Unit {0}

-- on each wanted row where that fits the lane is what the operator makes of those of two vectors, which is no fault
pub record AreComputedFitting (o : ArithmeticOperator) (left right : Numbers) (wanted : List Bool) (v : Numbers) : Type 0 where
  pub each : (row : ℕ) → IsWanted wanted row → LanesFit o (number_lane left row) (number_lane right row)
      → computed o (number_lane left row) (number_lane right row) ≡ Some (number_lane v row)
  pub long : AreLong (length wanted) v

-- ---- truths

-- what a comparison says of two numbers, none for null
abbrev pub comparison : ComparisonOperator → Option ℤ → Option ℤ → Truth
comparison o x y = truth_of (holds o (compared int_cmp x y))

-- the truth that a number stands for
abbrev pub truth_in : Bool → ℤ → Truth
truth_in true n = NullTruth
truth_in false n = truth_of (int_eq n (pos 1))

abbrev pub truth_lane : List Truth → ℕ → Truth
truth_lane truths row = slice_index_or truths row False

-- each row has this truth
pub record HasTruths (rows : ℕ) (f : ℕ → Truth) (truths : List Truth) : Type 0 where
  pub each : (row : ℕ) → row < rows → truth_lane truths row ≡ f row
  pub long : length truths ≡ rows

-- each wanted row whose truth is another than this one is asked, and no other row is
pub record AreAsked (wanted : List Bool) (truths : List Truth) (closed : Truth) (asked : List Bool) : Type 0 where
  pub each : (row : ℕ) → IsWanted wanted row → truth_lane truths row ≢ closed → IsWanted asked row
  pub alone : (row : ℕ) → IsWanted asked row → IsWanted wanted row × (truth_lane truths row ≢ closed)
  pub long : length asked ≡ length wanted
