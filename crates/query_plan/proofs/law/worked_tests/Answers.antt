use Rattle.std.proofs.Common.{refl}
use Rattle.query_plan.proofs.law.worked_tests.Goals as goal

pub returns : goal.returns
returns c = record {
  equal = refl;
  not_equal = refl;
  greater = refl;
  at_least = refl;
  less = refl;
  at_most = refl;
  below_zero = refl;
  of_null = refl;
  of_text = refl;
  of_truth = refl;
  of_date = refl;
  of_decimal = refl;
  below_zero_too = refl;
  whole = refl;
  of_columns = refl;
  turned = refl;
  opposite = refl;
  joined = refl;
  either = refl;
  faulty = refl;
  applied = refl;
  grouped = refl;
}
