use Rattle.std.proofs.Common.{refl}
use Rattle.row_eval.proofs.law.worked_numbers.Goals as goal

pub returns : goal.returns
returns c = record {
  sum = refl;
  difference = refl;
  product = refl;
  minus = refl;
  minus_null = refl;
  quotient = refl;
  left_below = refl;
  right_below = refl;
  both_below = refl;
  small_quotient = refl;
  remainder = refl;
  remainder_below = refl;
  remainder_by_below = refl;
  remainder_of_both = refl;
  no_remainder = refl;
  null_sum = refl;
  sum_null = refl;
  null_difference = refl;
  product_null = refl;
  null_quotient = refl;
  remainder_null = refl;
  by_zero = refl;
  zero_by_zero = refl;
  mod_zero = refl;
  null_by_zero = refl;
  null_mod_zero = refl;
  null_and_fault = refl;
  fault_and_null = refl;
  minus_fault = refl;
  decimal_sum_of = refl;
  decimal_difference_of = refl;
  decimal_minus = refl;
  scaled_integer = refl;
  scaled_below = refl;
  decimal_null = refl;
  null_decimal_first = refl;
  scaled_null = refl;
  minus_null_decimal = refl;
  scaled_fault = refl;
  fault_in_comparison = refl;
  great_sum = refl;
  great_product = refl;
  great_quotient = refl;
}
