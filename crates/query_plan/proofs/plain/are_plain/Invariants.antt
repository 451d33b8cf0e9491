use Rattle.std.proofs.Common.{◌≡◌, drop, map}
use Rattle.odata_query.specs.Query.{order_view}
use Rattle.query_meaning.specs.Order.{are_plain}
use Rattle.query_plan.proofs.plain.are_plain.Given as goal

-- the items so far are columns, so those left decide
abbrev pub invariant-loop-item : goal.invariant-loop-item
invariant-loop-item l = are_plain (map order_view l.items) ≡ are_plain (map order_view (drop l.item-index l.items))
