use Rattle.std.proofs.Common.{◌≡◌, ◌++◌, cond, map}
use Rattle.query_plan.specs.Plan.{node_view}
use Rattle.query_plan.specs.Push.{split_nodes}
use Rattle.query_plan.proofs.push.split_nodes.Given as goal

-- the first steps are made; those left are split as long as only filters came
abbrev pub invariant-loop-node : goal.invariant-loop-node
invariant-loop-node l =
    map node_view l.made.items ++ cond l.leads (split_nodes (map node_view l.node-iterator.rest.items)) (map node_view l.node-iterator.rest.items)
    ≡ split_nodes (map node_view l.fn.nodes.items)
