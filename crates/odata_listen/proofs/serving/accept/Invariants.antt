use Rattle.odata_listen.specs.Serving.{RunsOn}
use Rattle.odata_listen.proofs.serving.accept.Given as goal

-- a life led from the server at the start to this one
abbrev pub invariant-loop-turn : goal.invariant-loop-turn
invariant-loop-turn l = RunsOn l.fn.server l.server
