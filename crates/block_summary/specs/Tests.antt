-- What a test says of a value (OData 4.01, URL Conventions, sections 5.1.1.1.1 to 5.1.1.1.6), and which tests a block can have a row for.
use Rattle.std.specs.Prelude.{Bool, false, not, ◌&&◌, ◌||◌, nat_lt, if◌then◌else◌, Option, is_some, option_map}
use Rattle.std.specs.Ordering.{is_eq, is_ne, is_lt, is_gt, is_le, is_ge, is_some_and}
use Rattle.std.specs.declared.cmp.Ordering.{Ordering}
use Rattle.cell_types.specs.Value.{CellValue, value_cmp}
use Rattle.cell_types.specs.declared.comparison.ComparisonOperator.{ComparisonOperator}
use Rattle.cell_types.specs.declared.comparison.ComparisonOperator.TheVariants.{Equal, NotEqual, GreaterThan, GreaterOrEqual, LessThan, LessOrEqual}
use Rattle.block_summary.specs.Ranges.{RangeOf, is_null}

-- null equals null and nothing else
abbrev pub equals : CellValue → CellValue → Bool
equals a b = is_eq (value_cmp a b)

-- two values in an order; null is in none
abbrev pub are_ordered : (Ordering → Bool) → CellValue → CellValue → Bool
are_ordered p a b = not (is_null a) && not (is_null b) && p (value_cmp a b)

-- a value, compared with a literal
abbrev pub test_passes : ComparisonOperator → CellValue → CellValue → Bool
test_passes Equal v literal = equals v literal
test_passes NotEqual v literal = not (equals v literal)
test_passes GreaterThan v literal = are_ordered is_gt v literal
test_passes GreaterOrEqual v literal = are_ordered is_gt v literal || equals v literal
test_passes LessThan v literal = are_ordered is_lt v literal
test_passes LessOrEqual v literal = are_ordered is_lt v literal || equals v literal

-- how the least or the greatest, where there is one, lies to a value
abbrev pub order_to : Option CellValue → CellValue → Option Ordering
order_to bound v = option_map (λ b. value_cmp b v) bound

abbrev pub counts_nulls : RangeOf → Bool
counts_nulls range = nat_lt 0 range.null_count

-- which ranges admit a comparison with null, and which one with a value that is none
abbrev pub admits_null : ComparisonOperator → RangeOf → Bool
admits_null Equal range = counts_nulls range
admits_null NotEqual range = is_some range.least
admits_null GreaterThan range = false
admits_null GreaterOrEqual range = counts_nulls range
admits_null LessThan range = false
admits_null LessOrEqual range = counts_nulls range

abbrev pub admits_value : ComparisonOperator → RangeOf → CellValue → Bool
admits_value Equal range v = is_some_and is_le (order_to range.least v) && is_some_and is_ge (order_to range.greatest v)
admits_value NotEqual range v = counts_nulls range || is_some_and is_ne (order_to range.least v) || is_some_and is_ne (order_to range.greatest v)
admits_value GreaterThan range v = is_some_and is_gt (order_to range.greatest v)
admits_value GreaterOrEqual range v = is_some_and is_ge (order_to range.greatest v)
admits_value LessThan range v = is_some_and is_lt (order_to range.least v)
admits_value LessOrEqual range v = is_some_and is_le (order_to range.least v)

-- a column with such a range can have a cell that passes the comparison
abbrev pub admits : ComparisonOperator → RangeOf → CellValue → Bool
admits op range literal = if is_null literal then admits_null op range else admits_value op range literal
