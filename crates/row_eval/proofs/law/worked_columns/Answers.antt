use Rattle.std.proofs.Common.{refl}
use Rattle.row_eval.proofs.law.worked_columns.Goals as goal

pub returns : goal.returns
returns c = record {
  integers = refl;
  texts = refl;
  truths = refl;
  dates = refl;
  decimals = refl;
  null_integer = refl;
  null_text = refl;
  null_truth = refl;
  null_date = refl;
  null_decimal = refl;
  null_literal = refl;
  false_literal = refl;
  day_literal = refl;
  text_literal = refl;
  date_as_integer = refl;
  integer_as_decimal = refl;
  no_integer = refl;
  no_truth = refl;
}
