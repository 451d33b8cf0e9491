use Rattle.std.proofs.Common.{◌≡◌}
use Rattle.odata_serve.specs.Serving.{CountsAnswers}
use Rattle.odata_serve.proofs.serving.answer_connections.Given as goal

-- each turn answered a connection
abbrev pub invariant-loop-turn : goal.invariant-loop-turn
invariant-loop-turn g l = record {
  answered : CountsAnswers l._turn (g.L.Listener.listener l.fn.listener) (g.L.Listener.listener l.listener);
  failed : (g.L.Listener.listener l.listener).failed ≡ (g.L.Listener.listener l.fn.listener).failed;
  port : (g.L.Listener.listener l.listener).port ≡ (g.L.Listener.listener l.fn.listener).port;
}
