use Rattle.std.proofs.Common.{◌++◌, ◌∷◌, ℕ, [], Option, None, arith, get_or, length, ap, ◌∙◌}
use Rattle.std.proofs.lemmas.List.{length-replicate, replicate_more}
use Rattle.aggregate_rows.proofs.ListLemmas.{replicated}
use Rattle.aggregate_rows.proofs.parts.none_known.Goals as goal

pub loop-preserved : goal.loop-preserved
loop-preserved c = c.in_ok-push.ensures.items ∙ ap (λ ks. ks ++ None ∷ []) c.loop.invariant ∙ replicate_more c.loop.counter None

pub returns-clause-long : goal.returns-clause-long
returns-clause-long c = omega (arith, ap length c.loop.invariant, length-replicate {A = Option ℕ} c.loop.counter None, c.loop-test.false, c.loop.auto.counter-end)

pub returns-clause-none : goal.returns-clause-none
returns-clause-none c = λ code. ap (λ ks. get_or ks code None) c.loop.invariant ∙ replicated c.loop.counter code None
