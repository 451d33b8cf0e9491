use Rattle.std.proofs.Common.{map}
use Rattle.odata_query.specs.Query.{optional_numbers}
use Rattle.typed_trees.specs.TypedTree.{boxed_truth}
use Rattle.query_plan.specs.Plan.{node_view}
use Rattle.query_exec.proofs.PartsLemmas.{ArePartsOf}
use Rattle.query_exec.proofs.parts.split.Given as goal

-- the nodes so far are the conditions, then what is picked, and then the steps
abbrev pub invariant-loop-node : goal.invariant-loop-node
invariant-loop-node l =
    ArePartsOf (map node_view l.yielded) (map boxed_truth l.conditions.items) (optional_numbers l.places) (map node_view l.steps.items)
