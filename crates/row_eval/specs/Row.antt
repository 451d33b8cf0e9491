-- The values of a row, by the numbers of their columns. Where a row has no value of a type, it is null there.
pub use Rattle.cell_types.specs.Kind.{boolean_in, day_in, decimal_in, integer_in, number_in, text_in}
use Rattle.std.specs.Prelude.{ℕ, List, Option, map, option_and_then, slice_get}
use Rattle.cell_types.specs.declared.value.Value.{Value}
use Rattle.cell_types.specs.Value.{CellValue, value_view}

abbrev pub row_view : List Value → List CellValue
row_view row = map value_view row

-- what a reader finds in the column with a number
abbrev pub cell : {X : Type 0} → (CellValue → Option X) → List CellValue → ℕ → Option X
cell read row place = option_and_then read (slice_get row place)
