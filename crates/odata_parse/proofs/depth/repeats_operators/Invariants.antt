use Rattle.std.proofs.Common.{length}
use Rattle.odata_lex.specs.Token.{token_views}
use Rattle.odata_parse.proofs.DepthLemmas.{RepeatsLater}
use Rattle.odata_parse.proofs.depth.repeats_operators.Given as goal

abbrev pub invariant-loop-token : goal.invariant-loop-token
invariant-loop-token l = RepeatsLater (token_views l.fn.source l.fn.tokens) l.rest l.run

abbrev pub decreases-loop-token : goal.decreases-loop-token
decreases-loop-token l = length l.rest
