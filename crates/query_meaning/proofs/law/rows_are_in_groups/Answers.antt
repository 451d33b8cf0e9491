use Rattle.query_meaning.proofs.GroupLemmas.{alone, distinct, filled, first, grouped, members, one, parts}
use Rattle.query_meaning.proofs.law.rows_are_in_groups.Goals as goal

pub returns : goal.returns
returns c = record {
  distinct = distinct c.values_are_ordered.ensures.equal;
  grouped = grouped c.values_are_ordered.ensures.equal;
  filled = filled c.values_are_ordered.ensures.equal;
  members = members c.values_are_ordered.ensures.equal;
  alone = alone c.values_are_ordered.ensures.equal;
  parts = parts;
  first = first;
  one = one c.values_are_ordered.ensures.equal;
}
