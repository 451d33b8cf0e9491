use Rattle.std.proofs.Common.{refl}
use Rattle.row_eval.proofs.law.worked_comparisons.Goals as goal

pub returns : goal.returns
returns c = record {
  same_integers = record { equal = refl; unequal = refl; greater = refl; not_less = refl; less = refl; not_greater = refl };
  less_integer = record { equal = refl; unequal = refl; greater = refl; not_less = refl; less = refl; not_greater = refl };
  greater_integer = record { equal = refl; unequal = refl; greater = refl; not_less = refl; less = refl; not_greater = refl };
  same_decimals = record { equal = refl; unequal = refl; greater = refl; not_less = refl; less = refl; not_greater = refl };
  less_decimal = record { equal = refl; unequal = refl; greater = refl; not_less = refl; less = refl; not_greater = refl };
  greater_decimal = record { equal = refl; unequal = refl; greater = refl; not_less = refl; less = refl; not_greater = refl };
  same_texts = record { equal = refl; unequal = refl; greater = refl; not_less = refl; less = refl; not_greater = refl };
  prefix = record { equal = refl; unequal = refl; greater = refl; not_less = refl; less = refl; not_greater = refl };
  longer = record { equal = refl; unequal = refl; greater = refl; not_less = refl; less = refl; not_greater = refl };
  small_letter = record { equal = refl; unequal = refl; greater = refl; not_less = refl; less = refl; not_greater = refl };
  capital_first = record { equal = refl; unequal = refl; greater = refl; not_less = refl; less = refl; not_greater = refl };
  code_points = record { equal = refl; unequal = refl; greater = refl; not_less = refl; less = refl; not_greater = refl };
  same_dates = record { equal = refl; unequal = refl; greater = refl; not_less = refl; less = refl; not_greater = refl };
  year_first = record { equal = refl; unequal = refl; greater = refl; not_less = refl; less = refl; not_greater = refl };
  month_then = record { equal = refl; unequal = refl; greater = refl; not_less = refl; less = refl; not_greater = refl };
  day_last = record { equal = refl; unequal = refl; greater = refl; not_less = refl; less = refl; not_greater = refl };
  same_truths = record { equal = refl; unequal = refl; greater = refl; not_less = refl; less = refl; not_greater = refl };
  true_beside_false = record { equal = refl; unequal = refl; greater = refl; not_less = refl; less = refl; not_greater = refl };
  false_beside_true = record { equal = refl; unequal = refl; greater = refl; not_less = refl; less = refl; not_greater = refl };
  null_integers = record { equal = refl; unequal = refl; greater = refl; not_less = refl; less = refl; not_greater = refl };
  null_decimals = record { equal = refl; unequal = refl; greater = refl; not_less = refl; less = refl; not_greater = refl };
  null_texts = record { equal = refl; unequal = refl; greater = refl; not_less = refl; less = refl; not_greater = refl };
  null_dates = record { equal = refl; unequal = refl; greater = refl; not_less = refl; less = refl; not_greater = refl };
  null_truths = record { equal = refl; unequal = refl; greater = refl; not_less = refl; less = refl; not_greater = refl };
  null_integer_first = record { equal = refl; unequal = refl; greater = refl; not_less = refl; less = refl; not_greater = refl };
  null_integer_last = record { equal = refl; unequal = refl; greater = refl; not_less = refl; less = refl; not_greater = refl };
  null_decimal_first = record { equal = refl; unequal = refl; greater = refl; not_less = refl; less = refl; not_greater = refl };
  null_text_last = record { equal = refl; unequal = refl; greater = refl; not_less = refl; less = refl; not_greater = refl };
  null_date_first = record { equal = refl; unequal = refl; greater = refl; not_less = refl; less = refl; not_greater = refl };
  null_truth_beside_false = record { equal = refl; unequal = refl; greater = refl; not_less = refl; less = refl; not_greater = refl };
  null_truth_beside_true = record { equal = refl; unequal = refl; greater = refl; not_less = refl; less = refl; not_greater = refl };
}
