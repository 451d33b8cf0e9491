use Rattle.std.proofs.Common.{refl}
use Rattle.std.specs.Str.{chars}
use Rattle.row_eval.proofs.law.worked_functions.Goals as goal

pub returns : goal.returns
unfolding chars
returns c = record {
  contained = refl;
  not_contained = refl;
  empty_contained = refl;
  too_long = refl;
  at_start = refl;
  not_at_start = refl;
  at_end = refl;
  not_at_end = refl;
  null_contains = refl;
  contains_null = refl;
  starts_with_null = refl;
  null_ends = refl;
  length = refl;
  wide_length = refl;
  empty_length = refl;
  null_length = refl;
  index = refl;
  wide_index = refl;
  first_index = refl;
  no_index = refl;
  empty_index = refl;
  index_of_null = refl;
  index_in_null = refl;
  joined = refl;
  joined_null = refl;
  year = refl;
  month = refl;
  day_of_month = refl;
  null_year = refl;
  null_month = refl;
  null_day = refl;
}
