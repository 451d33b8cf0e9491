use Rattle.std.proofs.Common.{◌≡◌, ◌++◌, drop, map}
use Rattle.std.specs.List.{filter_map}
use Rattle.query_plan.specs.Plan.{leading, node_view}
use Rattle.query_plan.specs.Scan.{test_view}
use Rattle.query_plan.specs.Tests.{test_of}
use Rattle.query_plan.proofs.push.tests_of.Given as goal

-- the tests among the filters so far, and then those among the others
abbrev pub invariant-loop-node : goal.invariant-loop-node
invariant-loop-node l =
    map test_view l.tests.items ++ filter_map test_of (leading (map node_view (drop l.node-index l.nodes))) ≡ filter_map test_of (leading (map node_view l.nodes))
