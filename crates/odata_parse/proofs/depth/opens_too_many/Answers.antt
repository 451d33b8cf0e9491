use Rattle.std.proofs.Common.{refl, arith}
use Rattle.odata_parse.proofs.DepthLemmas.{OpensLater-more, OpensLater-now}
use Rattle.odata_parse.proofs.depth.opens_too_many.Goals as goal

pub returns-then-before-gt-MAX_OPEN : goal.returns-then-before-gt-MAX_OPEN
returns-then-before-gt-MAX_OPEN c =
    ((λ _. OpensLater-now _ _ _ _ _ _ c.loop-token.invariant c.in-Some.ensures.some c.open_behind-before.ensures (omega arith)), (λ _. refl))

pub loop-token-preserved : goal.loop-token-preserved
loop-token-preserved c = OpensLater-more _ _ _ _ _ _ c.loop-token.invariant c.in-Some.ensures.some c.open_behind-before.ensures (omega arith)
