use Rattle.std.proofs.Common.{map, sym, ◌∙◌, ap}
use Rattle.std.specs.Prelude.{◌==◌}
use Rattle.odata_query.specs.Query.{optional_numbers}
use Rattle.typed_trees.specs.TypedTree.{boxed_truth}
use Rattle.query_plan.specs.Plan.{node_view}
use Rattle.query_exec.proofs.PartsLemmas.{behind_places, behind_steps, pushed_behind}
use Rattle.query_exec.proofs.parts.split.Goals as goal
use Rattle.query_exec.proofs.parts.split.Goals.{then-is_some-via-then-is_some, then-is_some-via-else-is_some+then-not-is_empty}

pub loop-node-preserved-then-is_some : goal.loop-node-preserved-then-is_some
loop-node-preserved-then-is_some c =
    let places = c.loop-node.places in
    let steps = c.loop-node.steps.items in
    let node = c.in-Some.node in
    pushed_behind c.loop-node.yielded steps c.push.new.self.items (map boxed_truth c.loop-node.conditions.items) (optional_numbers places) node c.in_ok-push.ensures.items
    (elim c.then-is_some.branch [
      | then-is_some-via-then-is_some w ↦ behind_places places (map node_view steps) (node_view node) (sym c.is_some.ensures ∙ w.if-is_some.true)
      | then-is_some-via-else-is_some+then-not-is_empty w ↦ behind_steps (optional_numbers places) steps (node_view node) (ap (λ k. k == 0) (sym c.loop-node.steps.ok.0) ∙ sym w.is_empty.ensures ∙ w.if-not-is_empty.true)
    ]) c.loop-node.invariant
