use Rattle.std.proofs.Common.{refl}
use Rattle.cell_types.specs.Decimal.{decimal_of}
use Rattle.value_forms.specs.Rounding.{is_finer, nearest_even}
use Rattle.value_forms.specs.Scale.{exponent_number, moved, percent_number}
use Rattle.value_forms.proofs.laws.worked_numbers.Goals as goal

pub returns : goal.returns
unfolding decimal_of exponent_number is_finer moved nearest_even percent_number
returns c = record {
  comma = refl;
  comma_value = refl;
  negative = refl;
  plain = refl;
  point = refl;
  spaces = refl;
  short_group = refl;
  long_group = refl;
  late_group = refl;
  no_digit = refl;
  version = refl;
  percent_sign = refl;
  no_percent_sign = refl;
  percent = refl;
  fine_percent = refl;
  whole_percent = refl;
  exponent_sign = refl;
  small = refl;
  code = refl;
  exponent = refl;
  negative_exponent = refl;
  before = refl;
  after = refl;
  no_unit = refl;
  fine = refl;
  six = refl;
  nearest = refl;
  carried = refl;
  nearest_negative = refl;
  half_above = refl;
  half_below = refl;
  to_nothing = refl;
}
