use Rattle.std.proofs.Common.{map, take}
use Rattle.odata_query.specs.Query.{order_view}
use Rattle.order_columns.specs.Plain.{AreItemColumns}
use Rattle.order_columns.proofs.plain.plain_items.Given as goal

-- the columns so far are those that decide of the first items
abbrev pub invariant-loop-place : goal.invariant-loop-place
invariant-loop-place l = AreItemColumns (map order_view (take l.place l.items)) l.plain.items
