use Rattle.std.proofs.Common.{◌≡◌, ◌++◌, map}
use Rattle.odata_query.specs.Aggregate.{typed_transformation_view}
use Rattle.query_plan.specs.Plan.{apply_nodes, node_view}
use Rattle.query_plan.proofs.plan.push_apply.Given as goal

-- the first transformations are steps
abbrev pub invariant-loop-transformation : goal.invariant-loop-transformation
invariant-loop-transformation l =
    map node_view l.nodes.items ++ apply_nodes (map typed_transformation_view l.transformation-iterator.rest.items)
    ≡ map node_view l.fn.nodes.items ++ apply_nodes (map typed_transformation_view l.fn.apply.items)
