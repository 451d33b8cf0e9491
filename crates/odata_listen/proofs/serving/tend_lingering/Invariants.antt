use Rattle.odata_listen.specs.Serving.{RunsOn}
use Rattle.odata_listen.proofs.serving.tend_lingering.Given as goal

-- a life led from the server at the start to this one
abbrev pub invariant-loop-at : goal.invariant-loop-at
invariant-loop-at l = RunsOn l.fn.server l.server
