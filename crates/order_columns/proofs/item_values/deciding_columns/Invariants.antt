use Rattle.std.proofs.Common.{map, take}
use Rattle.odata_query.specs.Query.{order_view}
use Rattle.order_columns.proofs.ItemRowLemmas.{OrderSoFar}
use Rattle.order_columns.proofs.item_values.deciding_columns.Given as goal

-- the columns so far put rows in the order of the first items
abbrev pub invariant-loop-place : goal.invariant-loop-place
invariant-loop-place l = OrderSoFar (map order_view l.items) (map order_view (take l.place l.items)) l.columns.items
