use Rattle.std.proofs.Common.{◌∙◌, ◌∷◌, ◌++◌, [], ap, List, ℕ}
use Rattle.value_forms.proofs.ScaleLemmas.{zeros-more}
use Rattle.value_forms.proofs.scale.push_zeros.Goals as goal

pub loop-zero-preserved : goal.loop-zero-preserved
loop-zero-preserved c =
    c.in_ok-push.ensures.items ∙ ap (λ (l : List ℕ). l ++ 48 ∷ []) c.loop-zero.invariant ∙ zeros-more c.loop-zero._zero c.args.made.now.items
