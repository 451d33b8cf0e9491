-- Numbers on the rows of a block that are wanted, and bounds of them where such are known.
use Rattle.std.specs.Prelude.{◌≡◌, ℕ, ℤ, Bool, List, Option, Some, length, option_and_then}
use Rattle.cell_types.specs.Value.{CellValue}
use Rattle.typed_trees.specs.declared.operator.ArithmeticOperator.{ArithmeticOperator}
use Rattle.row_eval.specs.Outcome.{computed}
use Rattle.block_summary.specs.declared.bounds.Bounds.{Bounds}
use Rattle.block_eval.specs.declared.bounded.Bounded.{Bounded}
use Rattle.block_eval.specs.declared.columns.BlockColumn.{BlockColumn}
use Rattle.block_eval.specs.Bounds.{bounds_of, AreFitting, IsWithinKnown}
use Rattle.block_eval.specs.Columns.{IsRowAt}
use Rattle.block_eval.specs.Lanes.{number_lane, AreLong, GivesNumbers, IsWanted}

-- the lane of a row lies between the bounds
abbrev pub IsLaneWithin : Bounded → ℕ → Type 0
IsLaneWithin v row = IsWithinKnown v.bounds (number_lane v.numbers row)

-- for each wanted row the lane is what f makes of its cells, which is no fault, and lies between the bounds
pub record GivesBounded (f : List CellValue → Option (Option ℤ)) (columns : List BlockColumn) (wanted : List Bool) (v : Bounded) : Type 0 where
  pub numbers : GivesNumbers f columns wanted v.numbers
  pub within : (row : ℕ) (cells : List CellValue) → IsWanted wanted row → IsRowAt columns row cells → IsLaneWithin v row

-- each lane is this one
pub record IsSame (lane : Option ℤ) (v : Bounded) : Type 0 where
  pub each : (row : ℕ) → number_lane v.numbers row ≡ lane
  pub within : IsWithinKnown v.bounds lane
  pub long : (rows : ℕ) → AreLong rows v.numbers

-- the bounds of what an operator makes of two vectors, where those of both are known
abbrev pub joined_bounds : ArithmeticOperator → Bounded → Bounded → Option Bounds
joined_bounds o left right = option_and_then (λ l. option_and_then (λ r. bounds_of o l r) right.bounds) left.bounds

-- on each wanted row whose lanes lie between the bounds the lane is what the operator makes of those of two vectors, which is no fault
pub record AreJoined (o : ArithmeticOperator) (left right : Bounded) (wanted : List Bool) (v : Bounded) : Type 0 where
  pub each : (row : ℕ) → IsWanted wanted row → IsLaneWithin left row → IsLaneWithin right row
      → computed o (number_lane left.numbers row) (number_lane right.numbers row) ≡ Some (number_lane v.numbers row)
  pub within : (row : ℕ) → IsWanted wanted row → IsLaneWithin left row → IsLaneWithin right row → IsLaneWithin v row
  pub bounds : AreFitting (joined_bounds o left right) v.bounds
  pub long : AreLong (length wanted) v.numbers
