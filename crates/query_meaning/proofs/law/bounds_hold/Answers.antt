use Rattle.query_meaning.proofs.BoundLemmas.{decimals_bounded, expressions_fit, filters_fit, integers_bounded}
use Rattle.query_meaning.proofs.law.bounds_hold.Goals as goal

pub returns : goal.returns
returns c = record { expressions = expressions_fit; filters = filters_fit; integers = integers_bounded; decimals = decimals_bounded }
