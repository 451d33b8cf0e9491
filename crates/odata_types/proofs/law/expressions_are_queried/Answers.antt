use Rattle.odata_types.proofs.OptionLemmas.{apply_is_queried, order_is_queried}
use Rattle.odata_types.proofs.law.expressions_are_queried.Goals as goal

pub returns : goal.returns
returns c = record { order = order_is_queried; apply = apply_is_queried }
