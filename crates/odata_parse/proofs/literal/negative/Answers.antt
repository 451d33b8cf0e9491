use Rattle.std.proofs.Common.{subst, sym, ◌∙◌}
use Rattle.odata_lex.specs.Token.{IsOfTokenKind}
use Rattle.odata_lex.specs.declared.token.TokenKind.{TokenKind}
use Rattle.odata_parse.proofs.DecimalLemmas.{millionths_fit}
use Rattle.odata_parse.proofs.LiteralLemmas.{number_fits, negated, negative_only}
use Rattle.odata_parse.specs.Literal.{negative_number, negative_decimal}
use Rattle.odata_parse.proofs.literal.negative.Goals as goal

pub returns-in-Some-clause-found : goal.returns-in-Some-clause-found
returns-in-Some-clause-found c =
    let form = subst (λ (k : TokenKind). IsOfTokenKind k c.in-Some.decimal.text.now) c.in-Some.ensures.some.1 c.in-Some.ensures.form in
    rw (c.in-Some.ensures.some.0) (negative_decimal c.in-Some.ensures.some.1 (negated _ _ c.millionths.ensures (millionths_fit _ form)))

pub returns-in-Some-clause-each : goal.returns-in-Some-clause-each
returns-in-Some-clause-each c = λ v after r. negative_only (returns-in-Some-clause-found c) r

pub returns-clause-found : goal.returns-clause-found
returns-clause-found c =
    let form = subst (λ (k : TokenKind). IsOfTokenKind k c.in_ok-digits.digits.text.now) c.in_ok-digits.ensures.ok.1 c.in_ok-digits.ensures.form in
    rw (sym c.in_default.ensures.none.0 ∙ c.in_ok-digits.ensures.ok.0) (negative_number c.in_ok-digits.ensures.ok.1 (negated _ _ c.number.ensures (number_fits _ form)))

pub returns-clause-each : goal.returns-clause-each
returns-clause-each c = λ v after r. negative_only (returns-clause-found c) r
