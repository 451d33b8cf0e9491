use Rattle.std.proofs.Common.{◌≡◌}
use Rattle.service_log.proofs.log.Log.flush.Given as goal

-- what is counted stays
abbrev pub invariant-loop-piece : goal.invariant-loop-piece
invariant-loop-piece l = l.self.tally ≡ l.fn.self.tally
