use Rattle.odata_listen.specs.Serving.{RunsOn}
use Rattle.odata_listen.proofs.drain.end_streams.Given as goal

-- a life led from the server at the start to this one
abbrev pub invariant-loop-place : goal.invariant-loop-place
invariant-loop-place l = RunsOn l.fn.server l.server
