-- Sums, differences and products, which any two numbers have.
use Rattle.std.specs.Prelude.{◌≡◌, ◌<◌, ℕ, ℤ, pos, ◌||◌, ◌+ℤ◌, ◌-ℤ◌, ◌*ℤ◌, Bool, true, false, FitsSigned, List, Some, length, slice_index_or}
use Rattle.std.specs.Int.{w64}
use Rattle.typed_trees.specs.declared.operator.ArithmeticOperator.{ArithmeticOperator}
use Rattle.typed_trees.specs.declared.operator.ArithmeticOperator.TheVariants as operators
use Rattle.number_kernels.specs.declared.arithmetic.ExactOperator.{ExactOperator}
use Rattle.number_kernels.specs.declared.arithmetic.ExactOperator.TheVariants.{Add, Sub, Mul}
use Rattle.number_kernels.specs.declared.operand.Operand.{Operand}
use Rattle.row_eval.specs.Outcome.{operation}
use Rattle.number_kernels.specs.declared.division.DivisionSides.{DivisionSides}
use Rattle.number_kernels.specs.declared.division.QuotientOperator.{QuotientOperator}
use Rattle.number_kernels.specs.declared.division.QuotientOperator.TheVariants.{Div, Mod}
use Rattle.number_kernels.specs.Lanes.{IsWanted}
use Rattle.number_kernels.specs.Operands.{null_at, lane_value, IsLong}

abbrev pub exact : ExactOperator → ℤ → ℤ → ℤ
exact Add a b = a +ℤ b
exact Sub a b = a -ℤ b
exact Mul a b = a *ℤ b

abbrev pub operator_of : ExactOperator → ArithmeticOperator
operator_of Add = operators.Add
operator_of Sub = operators.Sub
operator_of Mul = operators.Mul

-- the joined numbers, where they fit 64 bits
abbrev pub AreExact : ExactOperator → Operand → Operand → List ℤ → Type 0
AreExact o left right values = (row : ℕ) → row < length values → FitsSigned w64 (exact o (lane_value left row) (lane_value right row))
    → slice_index_or values row (pos 0) ≡ exact o (lane_value left row) (lane_value right row)

-- on each row the joined number fits 64 bits, whether there is a null or not
abbrev pub AllFit : ℕ → ExactOperator → Operand → Operand → Type 0
AllFit rows o left right = (row : ℕ) → row < rows → FitsSigned w64 (exact o (lane_value left row) (lane_value right row))

-- the rows that have a null on a side
pub record HasNulls (rows : ℕ) (left right : Operand) (nulls : List Bool) : Type 0 where
  pub each : (row : ℕ) → row < rows → slice_index_or nulls row true ≡ (null_at left row || null_at right row)
  pub long : length nulls ≡ rows

-- the joined numbers of `rows` rows, if they fit
pub record HasValues (rows : ℕ) (o : ExactOperator) (left right : Operand) (values : List ℤ) : Type 0 where
  pub each : AreExact o left right values
  pub long : length values ≡ rows

abbrev pub operator_of_quotient : QuotientOperator → ArithmeticOperator
operator_of_quotient Div = operators.Div
operator_of_quotient Mod = operators.Mod

-- both sides, and the marks of nulls, are there for each row
pub record AreSidesLong (rows : ℕ) (sides : DivisionSides) : Type 0 where
  pub left : IsLong rows sides.left
  pub right : IsLong rows sides.right
  pub nulls : length sides.nulls.now ≡ rows

-- the quotients or remainders of the wanted rows that have no null
abbrev pub AreQuotients : QuotientOperator → DivisionSides → List Bool → List ℤ → Type 0
AreQuotients o sides wanted values = (row : ℕ) → row < length values → IsWanted wanted row → slice_index_or sides.nulls.now row true ≡ false
    → operation (operator_of_quotient o) (lane_value sides.left row) (lane_value sides.right row) ≡ Some (slice_index_or values row (pos 0))

-- and there are as many as rows
pub record HasQuotients (o : QuotientOperator) (sides : DivisionSides) (wanted : List Bool) (values : List ℤ) : Type 0 where
  pub each : AreQuotients o sides wanted values
  pub long : length values ≡ length wanted
