use Rattle.odata_listen.specs.Serving.{RunsOn}
use Rattle.odata_listen.proofs.serving.serve.Given as goal

-- a life led from the server at the start to this one
abbrev pub invariant-loop-tick : goal.invariant-loop-tick
invariant-loop-tick l = RunsOn l.fn.server l.server
