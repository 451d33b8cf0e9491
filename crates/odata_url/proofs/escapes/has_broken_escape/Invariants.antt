use Rattle.std.proofs.Common.{◌≡◌, length}
use Rattle.odata_url.proofs.EscapeLemmas.{is_broken}
use Rattle.odata_url.proofs.escapes.has_broken_escape.Given as goal

abbrev pub invariant-loop-byte : goal.invariant-loop-byte
invariant-loop-byte l = is_broken l.rest ≡ is_broken l.fn.text

abbrev pub decreases-loop-byte : goal.decreases-loop-byte
decreases-loop-byte l = length l.rest
