use Rattle.std.proofs.Common.{◌≡◌, drop, map}
use Rattle.query_plan.specs.Plan.{node_view}
use Rattle.query_plan.specs.Push.{early_stop}
use Rattle.query_plan.proofs.push.early_stop.Given as goal

-- the steps so far are filters
abbrev pub invariant-loop-node : goal.invariant-loop-node
invariant-loop-node l = early_stop (map node_view l.nodes) ≡ early_stop (map node_view (drop l.node-index l.nodes))
