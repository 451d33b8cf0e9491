use Rattle.std.proofs.Common.{◌≡◌, drop, map}
use Rattle.odata_query.specs.Query.{order_view}
use Rattle.query_exec.specs.Items.{none_can_fault}
use Rattle.query_exec.proofs.top_n.none_can_fault.Given as goal

-- the items so far cannot fault, so those left decide
abbrev pub invariant-loop-item : goal.invariant-loop-item
invariant-loop-item l = none_can_fault (map order_view l.items) ≡ none_can_fault (map order_view (drop l.item-index l.items))
