use Rattle.std.proofs.Common.{length}
use Rattle.odata_lex.specs.Token.{token_views}
use Rattle.odata_parse.proofs.DepthLemmas.{OpensLater}
use Rattle.odata_parse.proofs.depth.opens_too_many.Given as goal

abbrev pub invariant-loop-token : goal.invariant-loop-token
invariant-loop-token l = OpensLater (token_views l.fn.source l.fn.tokens) l.rest l.before

abbrev pub decreases-loop-token : goal.decreases-loop-token
decreases-loop-token l = length l.rest
