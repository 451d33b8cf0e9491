use Rattle.std.proofs.Common.{◌≡◌, drop, map}
use Rattle.std.specs.List.{list_any}
use Rattle.typed_trees.specs.CanFault.{truth_can_fault}
use Rattle.query_plan.specs.Plan.{leading, node_view}
use Rattle.query_plan.proofs.push.filters_can_fault.Given as goal

-- the filters so far cannot fault, so those left decide
abbrev pub invariant-loop-node : goal.invariant-loop-node
invariant-loop-node l =
    list_any truth_can_fault (leading (map node_view l.nodes)) ≡ list_any truth_can_fault (leading (map node_view (drop l.node-index l.nodes)))
