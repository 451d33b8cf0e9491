use Rattle.query_meaning.proofs.ComputedLemmas.{extremes_are_values}
use Rattle.query_meaning.proofs.law.extremes_are_values.Goals as goal

pub returns : goal.returns
returns c = extremes_are_values c.values_are_ordered.ensures.total
