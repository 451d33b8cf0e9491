use Rattle.std.proofs.Common.{◌∙◌, sym, arith, refl}
use Rattle.std.proofs.lemmas.List.{take_rest}
use Rattle.odata_lex.proofs.FirstLemmas.{at_end, at_digit, at_word, at_dollar, at_sign, quote_some, quote_none}
use Rattle.odata_lex.proofs.first.first_token.Goals as goal

pub returns-in_default : goal.returns-in_default
returns-in_default c = sym (at_end _ c.in_default.len_below)

pub returns-in_err-len : goal.returns-in_err-len
returns-in_err-len c = c.from_residual.ensures ∙ quote_none c.args.text.now (omega arith) c.if-first-eq39.true c.in_err-len.ensures.value

pub returns-then-first-eq39 : goal.returns-then-first-eq39
returns-then-first-eq39 c = quote_some c.args.text.now _ (omega arith) c.if-first-eq39.true c.in_ok-len.ensures.value

pub returns-then-is_ascii_digit : goal.returns-then-is_ascii_digit
returns-then-is_ascii_digit c =
    c.digit_token.ensures ∙ sym (at_digit c.args.text.now (omega arith) (sym c.is_ascii_digit.ensures.value ∙ c.if-is_ascii_digit.true))

pub returns-then-begins_word : goal.returns-then-begins_word
returns-then-begins_word c = rw (at_word c.args.text.now (omega arith) (sym c.begins_word.ensures ∙ c.if-begins_word.true), c.word_len.ensures.value) refl

pub returns-then-first-eq36 : goal.returns-then-first-eq36
returns-then-first-eq36 c = rw (at_dollar c.args.text.now (omega arith) c.if-first-eq36.true) (rw (take_rest c.args.text.now 1) at c.dollar_token.ensures)

pub returns : goal.returns
returns c =
    rw (at_sign c.args.text.now (omega arith) c.if-first-eq39.false (sym c.is_ascii_digit.ensures.value ∙ c.if-is_ascii_digit.false) (sym c.begins_word.ensures ∙ c.if-begins_word.false) c.if-first-eq36.false) c.sign_token.ensures
