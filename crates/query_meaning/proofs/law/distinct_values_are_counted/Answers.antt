use Rattle.query_meaning.proofs.ComputedLemmas.{distinct_values_are_counted}
use Rattle.query_meaning.proofs.law.distinct_values_are_counted.Goals as goal

pub returns : goal.returns
returns c = distinct_values_are_counted c.values_are_ordered.ensures.equal
