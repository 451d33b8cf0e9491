-- The numbers that an operator joins, row by row.
use Rattle.std.specs.Prelude.{◌≡◌, ℕ, ℤ, pos, Bool, true, false, Option, length, slice_index_or}
use Rattle.number_kernels.specs.declared.operand.Operand.{Operand}
use Rattle.number_kernels.specs.declared.operand.Operand.TheVariants.{Null, Same, Each}
use Rattle.number_kernels.specs.declared.numbers.Numbers.{Numbers}
use Rattle.number_kernels.specs.Lanes.{unless_null}
use Rattle.number_kernels.specs.Lanes.{number_lane, AreLong}

abbrev pub null_at : Operand → ℕ → Bool
null_at Null row = true
null_at (Same n) row = false
null_at (Each values nulls) row = slice_index_or nulls.now row true

abbrev pub lane_value : Operand → ℕ → ℤ
lane_value Null row = pos 0
lane_value (Same n) row = n
lane_value (Each values nulls) row = slice_index_or values.now row (pos 0)

abbrev pub operand_lane : Operand → ℕ → Option ℤ
operand_lane o row = unless_null (null_at o row) (lane_value o row)

abbrev pub IsLong : ℕ → Operand → Type 0
IsLong rows Null = Unit {0}
IsLong rows (Same n) = Unit {0}
IsLong rows (Each values nulls) = (length values.now ≡ rows) × (length nulls.now ≡ rows)

-- the operand has the vector's values, and is as long
pub record IsOperandOf (v : Numbers) (o : Operand) : Type 0 where
  pub each : (row : ℕ) → operand_lane o row ≡ number_lane v row
  pub long : (rows : ℕ) → AreLong rows v → IsLong rows o
