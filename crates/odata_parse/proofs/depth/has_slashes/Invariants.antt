use Rattle.std.proofs.Common.{◌≡◌, ◌-◌, length}
use Rattle.odata_lex.specs.Token.{token_views}
use Rattle.odata_parse.specs.Depth.{slashes}
use Rattle.odata_parse.proofs.depth.has_slashes.Given as goal

abbrev pub invariant-loop-token : goal.invariant-loop-token
invariant-loop-token l = l.limit - slashes (token_views l.fn.source l.fn.tokens) ≡ l.left - slashes l.rest

abbrev pub decreases-loop-token : goal.decreases-loop-token
decreases-loop-token l = length l.rest
