use Rattle.std.proofs.Common.{◌≡◌, [], replicate}
use Rattle.order_columns.proofs.item_values.no_values.Given as goal

abbrev pub invariant-loop : goal.invariant-loop
invariant-loop l = l.values.items ≡ replicate l.counter []
