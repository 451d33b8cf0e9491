-- A text may not end inside double quotes or after a CR, and may anywhere else.
use Rattle.std.proofs.Common.{◌≡◌, ℕ, false, not, ◌||◌, ◌==◌, refl, sym, ap, ap₂, ◌∙◌, ne_eqb, inl, inr, ◌⊎◌}
use Rattle.csv_grammar.specs.Following.{TextCarry, may_end}
use Rattle.quote_parity.specs.Kinds.{last_kind}
use Rattle.quote_parity.proofs.KindLemmas.{end_tests}
use Rattle.quote_parity.proofs.StepWords.{carry_with}
use Rattle.quote_parity.proofs.carry.Carry.finish.Goals as goal

-- whether a text of this carry may end, by the words
may_end_is : (o s k t : ℕ) (carry : TextCarry) → carry_with o (last_kind s k t) ≡ carry → may_end carry ≡ not ((o == 1) || (t == 1))
may_end_is o s k t carry e = ap may_end (sym e) ∙ end_tests (o == 1) (s == 1) (k == 1) (t == 1)

-- not where one of the words is 1
one_of : (o t : ℕ) → (o ≡ 1) ⊎ ((o ≡ 1 → ⊥) × (t ≡ 1)) → not ((o == 1) || (t == 1)) ≡ false
one_of o t (inl is) = rw is refl
one_of o t (inr w) = rw (ne_eqb o 1 w.0, w.1) refl

pub returns-then-self-eq1-2 : goal.returns-then-self-eq1-2
returns-then-self-eq1-2 c text carry viable =
    c.what_follows.ensures.no_end text viable (λ may.
    let is = may_end_is c.self.inside.odd c.self.inside.start c.self.inside.quote c.self.inside.cr _ (c.self.view_is ∙ carry)
    ∙ one_of c.self.inside.odd c.self.inside.cr c.if-self-eq1-2.either in
    cc (may, is))

pub returns-else-self-eq1-2 : goal.returns-else-self-eq1-2
returns-else-self-eq1-2 c text carry viable =
    c.what_follows.ensures.end text viable
    (may_end_is c.self.inside.odd c.self.inside.start c.self.inside.quote c.self.inside.cr _ (c.self.view_is ∙ carry)
    ∙ ap₂ (λ a b. not (a || b)) (ne_eqb c.self.inside.odd 1 c.if-self-eq1-2.false.0) (ne_eqb c.self.inside.cr 1 c.if-self-eq1-2.false.1))
