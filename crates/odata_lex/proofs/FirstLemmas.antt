-- The function that gives the token that a text begins with, by the first byte.
use Rattle.std.proofs.Common.{◌≡◌, ℕ, suc, ◌+◌, ◌<◌, true, false, ◌==◌, List, [], ◌∷◌, length, take, drop, Option, None, Some, refl, ap, ◌∙◌, sym, arith, add-one, get_or, ◌≢◌, is_some, MatchOption, ◌-◌}
use Rattle.std.proofs.lemmas.Bool.{false_from_ne_true}
use Rattle.std.proofs.lemmas.Bool.Decides.{nat_tests, Decides-and}
use Rattle.std.proofs.lemmas.List.{take_rest}
use Rattle.std.specs.Char.{is_ascii_digit}
use Rattle.std.specs.Option.{option_map}
use Rattle.odata_lex.specs.Token.{apostrophe, dollar, begins_word, IsDateForm, IsDateToken}
use Rattle.odata_lex.specs.First.{text_len, word_len, is_day, begins_date, date_token, digit_token, dollar_token, sign_token, first_token}
use Rattle.odata_lex.specs.Lexer.{is_blank}
use Rattle.odata_lex.specs.declared.token.TokenKind.TheVariants.{Text, Word}
use Rattle.odata_lex.proofs.Dates.{Decides-date_form, Decides-day}
use Rattle.odata_lex.proofs.Runs.{not_equal}

pub first-quote : (text : List ℕ) → first_token (apostrophe ∷ text) ≡ option_map (λ n. (Text, suc n)) (text_len false text)
unfolding first_token
first-quote text = refl

pub first-digit : (b : ℕ) (text : List ℕ) → is_ascii_digit b ≡ true → first_token (b ∷ text) ≡ digit_token (b ∷ text)
unfolding first_token
first-digit b text digit = let other : (b == apostrophe) ≡ false = grind (arith, nat_tests) in rw (other, digit) refl

pub first-word : (b : ℕ) (text : List ℕ) → begins_word b ≡ true → first_token (b ∷ text) ≡ Some (Word, word_len (b ∷ text))
unfolding first_token
first-word b text begins =
    let other : (b == apostrophe) ≡ false = grind (arith, nat_tests) in
    let digit : is_ascii_digit b ≡ false = grind (arith, nat_tests) in
    rw (other, digit, begins) refl

pub first-dollar : (text : List ℕ) → first_token (dollar ∷ text) ≡ dollar_token text
unfolding first_token
first-dollar text = refl

-- of a text that is not taken apart
pub at_end : (text : List ℕ) → length text < 1 → first_token text ≡ None
unfolding first_token
at_end [] short = refl
at_end (b ∷ text) short = absurd (omega arith)

pub at_quote : (text : List ℕ) → 0 < length text → get_or text 0 0 ≡ 39 → first_token text ≡ option_map (λ n. (Text, suc n)) (text_len false (drop 1 text))
at_quote [] long is = absurd (omega arith)
at_quote (b ∷ text) long is = rw is (first-quote text)

pub at_digit : (text : List ℕ) → 0 < length text → is_ascii_digit (get_or text 0 0) ≡ true → first_token text ≡ digit_token text
at_digit [] long is = absurd (omega arith)
at_digit (b ∷ text) long is = first-digit b text is

pub at_word : (text : List ℕ) → 0 < length text → begins_word (get_or text 0 0) ≡ true → first_token text ≡ Some (Word, word_len text)
at_word [] long is = absurd (omega arith)
at_word (b ∷ text) long is = first-word b text is

pub at_dollar : (text : List ℕ) → 0 < length text → get_or text 0 0 ≡ 36 → first_token text ≡ dollar_token (drop 1 text)
at_dollar [] long is = absurd (omega arith)
at_dollar (b ∷ text) long is = rw is (first-dollar text)

first-sign : (b : ℕ) (text : List ℕ) → (b == apostrophe) ≡ false → is_ascii_digit b ≡ false → begins_word b ≡ false → (b == dollar) ≡ false → first_token (b ∷ text) ≡ sign_token b
unfolding first_token
first-sign b text quoted digit letter named = rw (quoted, digit, letter, named) refl

pub at_sign : (text : List ℕ) → 0 < length text → get_or text 0 0 ≢ 39 → is_ascii_digit (get_or text 0 0) ≡ false → begins_word (get_or text 0 0) ≡ false → get_or text 0 0 ≢ 36 → first_token text ≡ sign_token (get_or text 0 0)
at_sign [] long quoted digit letter named = absurd (omega arith)
at_sign (b ∷ text) long quoted digit letter named = first-sign b text (not_equal b 39 quoted) digit letter (not_equal b 36 named)

-- what the calendar refuses is no token
pub no_day : {D : Type 0} (P : D → Type 0) (text : List ℕ) (day : Option D) → begins_date text ≡ true → is_some day ≡ false → MatchOption day (¬ (IsDateToken (take 10 text))) P → None ≡ date_token text
no_day P text (Some d) begins none refused = cc
no_day P text None begins none refused =
    let form : IsDateForm (take 10 text) = ((Decides-and _ _ (Decides-date_form (take 10 text)) ((λ e. e), (λ e. e))).0 begins).0 in
    let other : is_day (take 10 text) ≡ false = false_from_ne_true _ (λ is. refused ((Decides-day (take 10 text) form).0 is)) in
    rw other refl

-- a Text, as the code reads it after the first byte
pub quote_some : (text : List ℕ) (n : ℕ) → 0 < length text → get_or text 0 0 ≡ 39 → Some n ≡ text_len false (take (length text - 1) (drop 1 text)) → Some (Text, n + 1) ≡ first_token text
quote_some text n long is found =
    let behind = take_rest text 1 in
    let there : Some n ≡ text_len false (drop 1 text) = rw behind at found in
    sym (at_quote text long is ∙ ap (option_map (λ k. (Text, suc k))) (sym there) ∙ ap (λ k. Some (Text, k)) (sym (add-one n)))

pub quote_none : (text : List ℕ) → 0 < length text → get_or text 0 0 ≡ 39 → None ≡ text_len false (take (length text - 1) (drop 1 text)) → None ≡ first_token text
quote_none text long is found =
    let behind = take_rest text 1 in
    let there : None ≡ text_len false (drop 1 text) = rw behind at found in sym (at_quote text long is ∙ ap (option_map (λ k. (Text, suc k))) (sym there))

pub first_token-blank : (b : ℕ) (text : List ℕ) → is_blank b ≡ true → first_token (b ∷ text) ≡ None
first_token-blank b text blank =
    first-sign b text (grind (arith, nat_tests)) (grind (arith, nat_tests)) (grind (arith, nat_tests)) (grind (arith, nat_tests)) ∙ none
  where
    none : sign_token b ≡ None
    none = grind (arith, nat_tests)
