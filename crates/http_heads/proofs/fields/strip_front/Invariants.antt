use Rattle.std.proofs.Common.{◌≡◌, length}
use Rattle.http_heads.specs.Fields.{without_front}
use Rattle.http_heads.proofs.fields.strip_front.Given as goal

-- what is left is stripped to the same
abbrev pub invariant-loop-first : goal.invariant-loop-first
invariant-loop-first l = without_front l.rest ≡ without_front l.fn.bytes

abbrev pub decreases-loop-first : goal.decreases-loop-first
decreases-loop-first l = length l.rest
