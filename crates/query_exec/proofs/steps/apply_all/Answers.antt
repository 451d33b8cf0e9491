use Rattle.std.proofs.Common.{sym}
use Rattle.query_exec.proofs.StepLemmas.{step_made}
use Rattle.query_exec.proofs.steps.apply_all.Goals as goal

pub loop-node-preserved : goal.loop-node-preserved
loop-node-preserved c =
    step_made c.args.nodes.now c.loop-node.node-index c.node-item.result c.args.input c.loop-node.input c.loop-node-test.true (sym c.node-item.is) c.loop-node.invariant
    c.in_ok-input.input c.in_ok-input.ensures
