use Rattle.query_exec.proofs.StepLemmas.{GoesThrough}
use Rattle.query_exec.proofs.steps.apply_all.Given as goal

-- the steps so far were gone through
abbrev pub invariant-loop-node : goal.invariant-loop-node
invariant-loop-node l = GoesThrough l.nodes l.node-index l.initial.input l.input
