use Rattle.std.proofs.Common.{ap, sym, ◌∙◌}
use Rattle.http_heads.specs.declared.fields.Said.{Said}
use Rattle.http_heads.specs.Fields.{asks_to_close}
use Rattle.http_heads.proofs.FieldsLemmas.{last_old, last_new}
use Rattle.http_heads.proofs.fields.Said.is_last.Goals as goal

pub returns-then-minor-eq0 : goal.returns-then-minor-eq0
unfolding asks_to_close
returns-then-minor-eq0 c = λ head same said. rw (← same) (last_old head.minor _ (same ∙ c.if-minor-eq0.true))

pub returns-else-minor-eq0 : goal.returns-else-minor-eq0
unfolding asks_to_close
returns-else-minor-eq0 c = λ head same said.
    last_new head.minor _ _ (λ old. c.if-minor-eq0.false (sym same ∙ old)) (ap (λ (s : Said). s.lists_close) said)
