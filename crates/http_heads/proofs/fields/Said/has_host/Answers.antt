use Rattle.std.proofs.Common.{ap, sym, ◌∙◌}
use Rattle.http_heads.specs.declared.fields.Said.{Said}
use Rattle.http_heads.specs.Fields.{host_fits}
use Rattle.http_heads.proofs.FieldsLemmas.{host_none, host_new, host_one}
use Rattle.http_heads.proofs.fields.Said.has_host.Goals as goal

pub returns-then-self-eq1 : goal.returns-then-self-eq1
unfolding host_fits
returns-then-self-eq1 c = λ head same said. host_one c.args.self.now.hosts _ head.minor (ap (λ (s : Said). s.hosts) said) c.if-self-eq1.true

pub returns-then-minor-eq0 : goal.returns-then-minor-eq0
unfolding host_fits
returns-then-minor-eq0 c = λ head same said.
    host_none c.args.self.now.hosts _ head.minor (ap (λ (s : Said). s.hosts) said) c.if-self-eq1.false (same ∙ c.if-minor-eq0.true)

pub returns-else-minor-eq0 : goal.returns-else-minor-eq0
unfolding host_fits
returns-else-minor-eq0 c = λ head same said. rw (← same)
    (host_new c.args.self.now.hosts _ head.minor (ap (λ (s : Said). s.hosts) said) c.if-self-eq1.false (λ old. c.if-minor-eq0.false (sym same ∙ old)))
