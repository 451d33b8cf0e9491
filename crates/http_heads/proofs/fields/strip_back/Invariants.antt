use Rattle.std.proofs.Common.{◌≡◌, length}
use Rattle.http_heads.specs.Fields.{without_back}
use Rattle.http_heads.proofs.fields.strip_back.Given as goal

-- what is left is stripped to the same
abbrev pub invariant-loop-last : goal.invariant-loop-last
invariant-loop-last l = without_back l.rest ≡ without_back l.fn.bytes

abbrev pub decreases-loop-last : goal.decreases-loop-last
decreases-loop-last l = length l.rest
