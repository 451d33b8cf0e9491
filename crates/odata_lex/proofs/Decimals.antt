-- Whether digits, `.` and a digit begin a text, and the decimal that they begin.
use Rattle.std.proofs.Common.{◌≡◌, ℕ, ◌+◌, ◌≤◌, ◌<◌, true, List, [], ◌∷◌, ◌++◌, length, take, drop, Some, refl, ap, ◌∙◌, sym, arith, get_or, nat_le, append_assoc, length-take-le}
use Rattle.std.proofs.lemmas.Bool.Decides.{nat_tests, Decides-eqb, Decides-and}
use Rattle.std.proofs.lemmas.List.{take-append-drop, take_at, drop_at, drop-drop, get_or_at, at_drop_more, get_or_append_left}
use Rattle.std.specs.Bool.{Decides}
use Rattle.std.specs.Char.{digit_value, is_ascii_digit}
use Rattle.std.specs.List.{list_all}
use Rattle.odata_lex.specs.Token.{point, minus, AreDigits, IsDateForm}
use Rattle.odata_lex.specs.First.{word_len, ends_word, begins_fraction, begins_decimal, fits_decimal, decimal_token}
use Rattle.odata_lex.specs.Lexer.{BeginsDate, BeginsDecimal}
use Rattle.odata_lex.specs.declared.token.TheConstants.{MAX_WHOLE_DIGITS, MAX_FRACTION_DIGITS}
use Rattle.odata_lex.specs.declared.token.TokenKind.TheVariants.{Decimal}
use Rattle.odata_lex.proofs.Digits.{Decides-digits, Decides-digit}
use Rattle.odata_lex.proofs.Runs.{run_within, word_len-append, word_bytes_of_digits}

-- `.` and a digit stand first
pub record Fraction (text : List ℕ) : Type 0 where
  pub digit : ℕ
  pub after : List ℕ
  pub split : text ≡ point ∷ digit ∷ after
  pub small : digit_value digit < 10

fraction_there : (text : List ℕ) → begins_fraction text ≡ true → Fraction text
fraction_there [] is = absurd (cc)
fraction_there (b ∷ []) is = absurd (cc)
fraction_there (b ∷ d ∷ after) is =
    let both = (Decides-and _ _ (Decides-eqb b point) (Decides-digit d)).0 is in
    record { digit = d; after = after; split = ap (λ x. x ∷ d ∷ after) both.0; small = both.1 }

-- what the test says of the digits and of what stands after them
pub decimal_parts : (text : List ℕ) → begins_decimal text ≡ true → AreDigits (take (word_len text) text) × Fraction (drop (word_len text) text)
decimal_parts text is =
    let both = (Decides-and _ _ (Decides-digits (take (word_len text) text)) ((λ e. e), (λ e. e))).0 is in
    (both.0, fraction_there (drop (word_len text) text) both.1)

pub decimal_there : (text : List ℕ) → 0 < word_len text → begins_decimal text ≡ true → BeginsDecimal text
decimal_there text some is =
    let p = decimal_parts text is in
    record {
      whole = take (word_len text) text;
      digit = p.1.digit;
      after = p.1.after;
      split = sym (take-append-drop (word_len text) text) ∙ ap (λ l. take (word_len text) text ++ l) p.1.split;
      before = p.0;
      some_before = rw (length-take-le (word_len text) text (run_within text)) some;
      behind = (p.1.small, tt);
    }

pub whole_len : (whole rest : List ℕ) → AreDigits whole → word_len (whole ++ point ∷ rest) ≡ length whole
whole_len whole rest digits = word_len-append whole (point ∷ rest) (word_bytes_of_digits whole digits) refl

parts_test : (text whole rest : List ℕ) (n : ℕ) → word_len text ≡ n → take n text ≡ whole → drop n text ≡ rest → list_all is_ascii_digit whole ≡ true → begins_fraction rest ≡ true → begins_decimal text ≡ true
parts_test text whole rest n len front behind digits point = rw (len, front, behind, digits, point) refl

fraction_back : (digit : ℕ) (after : List ℕ) → AreDigits (digit ∷ []) → begins_fraction (point ∷ digit ∷ after) ≡ true
fraction_back digit after small = rw ((Decides-digit digit).1 small.0) refl

pub decimal_back : (text : List ℕ) → BeginsDecimal text → begins_decimal text ≡ true
decimal_back text d =
    let rest : List ℕ = point ∷ d.digit ∷ d.after in
    let len : word_len text ≡ length d.whole = ap word_len d.split ∙ whole_len d.whole (d.digit ∷ d.after) d.before in
    let front : take (length d.whole) text ≡ d.whole = ap (take (length d.whole)) d.split ∙ take_at d.whole rest (length d.whole) refl in
    let behind : drop (length d.whole) text ≡ rest = ap (drop (length d.whole)) d.split ∙ drop_at d.whole rest (length d.whole) refl in
    parts_test text d.whole rest (length d.whole) len front behind ((Decides-digits d.whole).1 d.before) (fraction_back d.digit d.after d.behind)

-- the digits of a date are four, and `-` stands after them
date_at : (front after : List ℕ) → IsDateForm front → (word_len (front ++ after) ≡ 4) × (get_or (front ++ after) 4 0 ≡ minus)
date_at front after form =
    let long : length front ≡ 10 = form.ten in
    let cut : drop 4 front ≡ minus ∷ drop 5 front = at_drop_more (λ l. l) front 4 0 (omega arith) ∙ ap (λ b. b ∷ drop 5 front) form.before_month in
    let whole : front ++ after ≡ take 4 front ++ minus ∷ (drop 5 front ++ after) =
    ap (λ l. l ++ after) (sym (take-append-drop 4 front) ∙ ap (λ l. take 4 front ++ l) cut) ∙ append_assoc (take 4 front) (minus ∷ drop 5 front) after in
    let run = word_len-append (take 4 front) (minus ∷ (drop 5 front ++ after)) (word_bytes_of_digits (take 4 front) form.year) refl in
    (ap word_len whole ∙ run ∙ length-take-le 4 front (omega arith), get_or_append_left front after 0 4 (omega arith) ∙ form.before_month)

pub no_date_here : (text : List ℕ) → BeginsDecimal text → BeginsDate text → ⊥
no_date_here text d date =
    let at = date_at date.front date.after date.form in
    let len : word_len text ≡ length d.whole = ap word_len d.split ∙ whole_len d.whole (d.digit ∷ d.after) d.before in
    let four : length d.whole ≡ 4 = sym len ∙ ap word_len date.split ∙ at.0 in
    let here : get_or text 4 0 ≡ point = ap (λ l. get_or l 4 0) d.split ∙ get_or_at d.whole point (d.digit ∷ d.after) 0 4 four in
    let there : get_or text 4 0 ≡ minus = ap (λ l. get_or l 4 0) date.split ∙ at.1 in
    omega (arith, here, there)

-- ---- the token

pub few_decides : (n most : ℕ) → Decides (nat_le n most) (n ≤ most)
few_decides n most = ((λ is. grind (arith, nat_tests)), (λ le. grind (arith, nat_tests)))

pub record Fits (whole : ℕ) (fraction : List ℕ) : Type 0 where
  pub few_before : whole ≤ MAX_WHOLE_DIGITS
  pub few_behind : word_len fraction ≤ MAX_FRACTION_DIGITS
  pub digits : AreDigits (take (word_len fraction) fraction)

pub Decides-fits : (whole : ℕ) (fraction : List ℕ) → Decides (fits_decimal whole fraction) (Fits whole fraction)
Decides-fits whole fraction =
    let test = Decides-and _ _ (Decides-and _ _ (few_decides whole MAX_WHOLE_DIGITS) (few_decides (word_len fraction) MAX_FRACTION_DIGITS)) (Decides-digits (take (word_len fraction) fraction)) in
    ((λ is. let h = test.0 is in record { few_before = h.0.0; few_behind = h.0.1; digits = h.1 }), (λ f. test.1 ((f.few_before, f.few_behind), f.digits)))

token_at : (text rest : List ℕ) (m n : ℕ) → word_len text ≡ m → drop (m + 1) text ≡ rest → word_len rest ≡ n → fits_decimal m rest ≡ true → decimal_token text ≡ Some (Decimal, m + 1 + n)
token_at text rest m n len behind run fits = rw (len, behind, fits, run) refl

pub decimal_given : (whole fraction after : List ℕ) → AreDigits whole → AreDigits fraction → length whole ≤ MAX_WHOLE_DIGITS → length fraction ≤ MAX_FRACTION_DIGITS → ends_word after ≡ true → decimal_token (whole ++ point ∷ (fraction ++ after)) ≡ Some (Decimal, length whole + 1 + length fraction)
decimal_given whole fraction after before behind few few_behind ends =
    let rest : List ℕ = fraction ++ after in
    let run : word_len rest ≡ length fraction = word_len-append fraction after (word_bytes_of_digits fraction behind) ends in
    let taken : take (word_len rest) rest ≡ fraction = rw run (take_at fraction after (length fraction) refl) in
    let cut : drop (length whole + 1) (whole ++ point ∷ rest) ≡ rest =
    sym (drop-drop 1 (length whole) (whole ++ point ∷ rest)) ∙ ap (drop 1) (drop_at whole (point ∷ rest) (length whole) refl) in
    let fits = (Decides-fits (length whole) rest).1 (record { few_before = few; few_behind = rw run few_behind; digits = rw taken behind }) in
    token_at (whole ++ point ∷ rest) rest (length whole) (length fraction) (whole_len whole rest before) cut run fits
