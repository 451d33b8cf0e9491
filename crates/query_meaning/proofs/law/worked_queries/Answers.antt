use Rattle.std.proofs.Common.{refl}
use Rattle.cell_types.specs.Value.{value_cmp, value_eq}
use Rattle.query_meaning.proofs.law.worked_queries.Goals as goal

pub returns : goal.returns
unfolding value_cmp value_eq
returns c = record {
  selected = refl;
  grouped = refl;
  descending = refl;
  ascending = refl;
  greater = refl;
  unknown = refl;
  faulty = refl;
  skipped = refl;
  piece = refl;
  last = refl;
  two_items = refl;
  filtered_count = refl;
  filtered_number = refl;
  after_apply = refl;
  counted = refl;
  empty = refl;
  aggregated = refl;
  priced = refl;
  keyed = refl;
  keyless = refl;
  numbered = refl;
}
