use Rattle.std.proofs.Common.{ap, sym, ◌∙◌}
use Rattle.http_heads.specs.Fields.{without_back}
use Rattle.http_heads.proofs.FieldsLemmas.{back-blank, back-other}
use Rattle.http_heads.proofs.fields.strip_back.Goals as goal

pub loop-last-preserved : goal.loop-last-preserved
loop-last-preserved c =
    sym (back-blank c.in-Some.front.now c.in-Some.last.now (sym c.is_blank.ensures ∙ c.if-not-is_blank.false))
    ∙ ap without_back (sym c.in-Some.ensures.cases.0) ∙ c.loop-last.invariant

pub returns-then-not-is_blank : goal.returns-then-not-is_blank
returns-then-not-is_blank c =
    c.in-Some.ensures.cases.0
    ∙ sym (back-other c.in-Some.front.now c.in-Some.last.now (sym c.is_blank.ensures ∙ c.if-not-is_blank.true))
    ∙ ap without_back (sym c.in-Some.ensures.cases.0) ∙ c.loop-last.invariant
