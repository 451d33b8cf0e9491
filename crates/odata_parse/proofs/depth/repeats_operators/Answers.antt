use Rattle.std.proofs.Common.{refl, arith}
use Rattle.std.proofs.lemmas.Bool.{false≢true}
use Rattle.odata_parse.proofs.DepthLemmas.{RepeatsLater-on, RepeatsLater-off, RepeatsLater-now, RepeatsLater-end}
use Rattle.odata_parse.proofs.depth.repeats_operators.Goals as goal

pub loop-token-preserved-then-not-is_operator : goal.loop-token-preserved-then-not-is_operator
loop-token-preserved-then-not-is_operator c =
    RepeatsLater-off _ _ _ _ _ c.loop-token.invariant c.in-Some.ensures.some (λ o k. false≢true (c.if-not-is_operator.ensures.no o k))

pub returns-then-run-eq-MAX_OPERATORS : goal.returns-then-run-eq-MAX_OPERATORS
returns-then-run-eq-MAX_OPERATORS c =
    let y = c.if-not-is_operator.ensures.yes refl in
    ((λ _. RepeatsLater-now _ _ _ _ _ _ c.loop-token.invariant c.in-Some.ensures.some y.1 (omega arith)), (λ _. refl))

pub loop-token-preserved : goal.loop-token-preserved
loop-token-preserved c =
    let y = c.if-not-is_operator.ensures.yes refl in
    RepeatsLater-on _ _ _ _ _ _ c.loop-token.invariant c.in-Some.ensures.some y.1 (omega arith)

pub returns : goal.returns
returns c = ((λ e. absurd (false≢true e)), (λ r. absurd (RepeatsLater-end _ _ _ c.loop-token.invariant c.in_default.ensures.none.0 r)))
