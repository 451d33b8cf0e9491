use Rattle.std.proofs.Common.{refl}
use Rattle.odata_query.proofs.law.worked_keys.Goals as goal

pub returns : goal.returns
returns c = record {
  number = refl;
  negative = refl;
  text = refl;
  boolean = refl;
  date = refl;
  decimal = refl;
  scaled = refl;
  great = refl;
  one_name = refl;
  two_names = refl;
  other_order = refl;
  order_of_key = refl;
  null_value = refl;
  text_for_integer = refl;
  decimal_for_integer = refl;
  number_for_text = refl;
  number_for_boolean = refl;
  text_for_date = refl;
  huge = refl;
  no_key = refl;
  no_named_key = refl;
  single_for_two = refl;
  too_few = refl;
  too_many = refl;
  other_name = refl;
  other_case = refl;
  twice = refl;
  null_under_name = refl;
}
