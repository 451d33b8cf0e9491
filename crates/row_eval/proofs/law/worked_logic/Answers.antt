use Rattle.std.proofs.Common.{refl}
use Rattle.row_eval.proofs.law.worked_logic.Goals as goal

pub returns : goal.returns
returns c = record {
  true_and_true = refl;
  true_and_false = refl;
  true_and_null = refl;
  false_and_true = refl;
  false_and_false = refl;
  false_and_null = refl;
  null_and_true = refl;
  null_and_false = refl;
  null_and_null = refl;
  true_or_true = refl;
  true_or_false = refl;
  true_or_null = refl;
  false_or_true = refl;
  false_or_false = refl;
  false_or_null = refl;
  null_or_true = refl;
  null_or_false = refl;
  null_or_null = refl;
  not_true = refl;
  not_false = refl;
  not_null = refl;
  null_column = refl;
  not_null_column = refl;
  not_equal_null = refl;
  not_unequal_null = refl;
  false_and_faulty = refl;
  true_or_faulty = refl;
  true_and_faulty = refl;
  null_and_faulty = refl;
  false_or_faulty = refl;
  null_or_faulty = refl;
  faulty_and_false = refl;
  faulty_or_true = refl;
  not_faulty = refl;
  faulty_beside_null = refl;
  faulty_among = refl;
  among = refl;
  not_among = refl;
  beside_null = refl;
  not_null_among = refl;
  null_among = refl;
  null_not_among = refl;
  decimal_among = refl;
  decimal_not_among = refl;
  text_among = refl;
  text_not_among = refl;
  null_text_among = refl;
  date_among = refl;
  date_not_among = refl;
  truth_among = refl;
  truth_not_among = refl;
  null_truth_among = refl;
}
