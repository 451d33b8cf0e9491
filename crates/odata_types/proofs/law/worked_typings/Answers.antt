use Rattle.std.proofs.Common.{refl}
use Rattle.odata_types.proofs.law.worked_typings.Goals as goal

pub returns : goal.returns
returns c = record {
  operands = record {
    null_literal = refl;
    boolean_literal = refl;
    integer_literal = refl;
    negative_literal = refl;
    fraction_literal = refl;
    letter_literal = refl;
    day_literal = refl;
    most_literal = refl;
    too_large = refl;
    integer_name = refl;
    text_name = refl;
    boolean_name = refl;
    date_name = refl;
    decimal_name = refl;
    unknown_name = refl;
    not_open = refl;
    not_null = refl;
    not_number = refl;
    minus_integer = refl;
    minus_decimal = refl;
    minus_null = refl;
    minus_text = refl;
  };
  operators = record {
    both = refl;
    either = refl;
    neither = refl;
    sum = refl;
    difference = refl;
    product = refl;
    quotient = refl;
    remainder = refl;
    sum_with_null = refl;
    grown = refl;
    text_sum = refl;
    sum_text = refl;
    decimal_add = refl;
    decimal_sub = refl;
    decimal_mul = refl;
    decimal_div = refl;
    decimal_mod = refl;
    left_name = refl;
    left_sum = refl;
    integers = refl;
    decimals = refl;
    integer_first = refl;
    texts = refl;
    dates = refl;
    truths = refl;
    text_beside_null = refl;
    null_beside_date = refl;
    nulls = refl;
    number_beside_text = refl;
    date_beside_truth = refl;
    huge_integer = refl;
    huge_decimal = refl;
  };
  lists = record {
    integers = refl;
    mixed = refl;
    decimals = refl;
    texts = refl;
    dates = refl;
    truths = refl;
    null_among_integers = refl;
    null_among_nulls = refl;
    text_among_integers = refl;
    text_in_integers = refl;
    unknown_in_list = refl;
    huge_among_decimals = refl;
  };
  calls = record {
    length = refl;
    null_length = refl;
    year = refl;
    month = refl;
    day = refl;
    number_length = refl;
    text_year = refl;
    contains = refl;
    starts_with = refl;
    ends_with = refl;
    index = refl;
    joined = refl;
    number_part = refl;
    number_joined = refl;
    unknown_part = refl;
  };
  condition = refl;
  null_condition = refl;
  number_condition = refl;
}
