use Rattle.std.proofs.Common.{◌≡◌, ◌++◌, map}
use Rattle.std.specs.Prelude.{option_map, option_to_list}
use Rattle.query_plan.specs.Plan.{node_view}
use Rattle.query_plan.specs.Rewrite.{best_nodes}
use Rattle.query_plan.proofs.rewrites.with_best_rows.Given as goal

-- the first steps are made, but for the one that is held
abbrev pub invariant-loop-node : goal.invariant-loop-node
invariant-loop-node l =
    map node_view l.made.items ++ best_nodes (option_to_list (option_map node_view l.held) ++ map node_view l.node-iterator.rest.items)
    ≡ best_nodes (map node_view l.fn.nodes.items)
