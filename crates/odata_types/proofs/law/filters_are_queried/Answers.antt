use Rattle.odata_types.proofs.QueryLemmas.{filter_is_queried}
use Rattle.odata_types.proofs.law.filters_are_queried.Goals as goal

pub returns : goal.returns
returns c = filter_is_queried
