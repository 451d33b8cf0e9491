use Rattle.std.proofs.Common.{map, take}
use Rattle.odata_query.specs.Query.{order_view}
use Rattle.order_columns.specs.Plain.{AreItemColumns}
use Rattle.order_columns.proofs.item_values.column_items.Given as goal

-- the items so far are the first columns
abbrev pub invariant-loop-item : goal.invariant-loop-item
invariant-loop-item l = AreItemColumns (map order_view l.items.items) (take l.item-index l.columns)
