use Rattle.std.proofs.Common.{◌≡◌, ℕ, List, ◌++◌, length}
use Rattle.odata_http.specs.Answer.{HasWritten}
use Rattle.odata_http.proofs.answer.send_reply.Given as goal

-- so much was written, and the rest waits
abbrev pub invariant-loop-reply : goal.invariant-loop-reply
invariant-loop-reply g l =
    (sent : List ℕ) × (sent ++ l.reply ≡ l.fn.reply) × HasWritten (g.W.Sink.sink l.fn.out) (g.W.Sink.sink l.out) sent

abbrev pub decreases-loop-reply : goal.decreases-loop-reply
decreases-loop-reply g l = length l.reply
