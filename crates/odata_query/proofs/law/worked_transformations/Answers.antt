use Rattle.std.proofs.Common.{refl}
use Rattle.odata_query.proofs.law.worked_transformations.Goals as goal

pub returns : goal.returns
returns c = record {
  nothing = refl;
  filter = refl;
  filter_number = refl;
  filter_unknown = refl;
  sum_of_integers = refl;
  sum_of_decimals = refl;
  least = refl;
  greatest = refl;
  greatest_integer = refl;
  distinct = refl;
  count = refl;
  sum_of_texts = refl;
  sum_of_truths = refl;
  sum_of_dates = refl;
  sum_of_unknown = refl;
  column_alias = refl;
  own_alias = refl;
  earlier_alias = refl;
  mismatch_first = refl;
  groups = refl;
  aggregated_groups = refl;
  unknown_group = refl;
  names_first = refl;
  item_then = refl;
  counted_groups = refl;
  group_hides = refl;
  aggregate_hides = refl;
  free_alias = refl;
  sum_of_sums = refl;
}
