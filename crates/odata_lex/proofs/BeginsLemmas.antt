-- The token that a text begins with is the one that `first_token` gives.
use Rattle.std.proofs.Common.{◌≡◌, ℕ, suc, ◌<◌, Bool, true, false, ◌&&◌, ◌==◌, if◌then◌else◌, List, [], ◌∷◌, ◌++◌, length, take, drop, Option, None, Some, refl, ap, ◌∙◌, sym, arith, nat_le, length-take-le, append_assoc, length-append, add-one, ◌+◌}
use Rattle.std.proofs.lemmas.Bool.{false_from_ne_true}
use Rattle.std.proofs.lemmas.Bool.Decides.{Decides-eqb, Decides-and}
use Rattle.std.proofs.lemmas.List.{take-append-drop, take_at, drop_at, length_push}
use Rattle.std.specs.Bool.{Decides}
use Rattle.std.specs.Char.{digit_value, is_ascii_digit}
use Rattle.std.specs.List.{list_all}
use Rattle.std.specs.Option.{option_map}
use Rattle.odata_lex.specs.Token.{apostrophe, minus, point, dollar, apostrophes_doubled, begins_word, AreDigits, IsTextToken, IsDecimal, IsNumberToken, IsWord, word, IsDollar, IsDateForm, IsDateToken, IsOfTokenKind, may_follow_token, EndsBefore}
use Rattle.odata_lex.specs.First.{text_len, word_len, ends_word, is_day, begins_date, date_token, begins_decimal, decimal_token, number_token, digit_token, dollar_token, sign_token, first_token}
use Rattle.odata_lex.specs.Lexer.{BeginsToken, BeginsDate, BeginsDecimal}
use Rattle.odata_lex.specs.declared.token.TheConstants.{MAX_DIGITS}
use Rattle.odata_lex.specs.declared.token.TokenKind.{TokenKind}
use Rattle.odata_lex.specs.declared.token.TokenKind.TheVariants.{Text, Date, Decimal, Number, Word, Dollar, OpenParenthesis, CloseParenthesis, Comma, Slash, Minus, Star, EqualsSign}
use Rattle.odata_lex.proofs.Digits.{Decides-digits, Decides-digit}
use Rattle.odata_lex.proofs.Dates.{Decides-date_form, Decides-day}
use Rattle.odata_lex.proofs.Runs.{run_ends, run_word, run_within, word_len-append, digit_begins, word_bytes_of_digits, ends_before, ends_word_before, word_byte_of_begin}
use Rattle.odata_lex.proofs.Decimals.{decimal_there, decimal_back, no_date_here, few_decides, decimal_given}
use Rattle.odata_lex.proofs.Finds.{Finds, FindsIn}
use Rattle.odata_lex.proofs.DecimalFound.{decimal_found}
use Rattle.odata_lex.proofs.Texts.{ClosesAt, closes, text_len-found}
use Rattle.odata_lex.proofs.FirstLemmas.{first-quote, first-digit, first-word, first-dollar}

-- ---- what is given begins the text

text_found : (b : ℕ) (text : List ℕ) (o : Option ℕ) → b ≡ apostrophe → ClosesAt false text o → FindsIn (b ∷ text) (option_map (λ n. (Text, suc n)) o)
text_found b text None is h = tt
text_found b text (Some n) is h = record {
  front = b ∷ h.body;
  after = h.after;
  begins = record {
    split = ap (λ l. b ∷ l) h.split;
    form = record { content = h.content; printed = rw is (ap (λ l. apostrophe ∷ l) h.printed) };
    ends = h.ends;
    no_date = λ e. absurd (cc);
    no_decimal = λ e. absurd (cc);
  };
  len = ap suc h.len;
}

-- a text of that form begins where the test says so
pub Decides-begins_date : (text : List ℕ) → Decides (begins_date text) (BeginsDate text)
Decides-begins_date text = (there, back)
  where
    parts : begins_date text ≡ true → IsDateForm (take 10 text) × (ends_word (drop 10 text) ≡ true)
    parts is = (Decides-and _ _ (Decides-date_form (take 10 text)) ((λ e. e), (λ e. e))).0 is

    there : begins_date text ≡ true → BeginsDate text
    there is = record { front = take 10 text; after = drop 10 text; split = sym (take-append-drop 10 text); form = (parts is).0; ends = ends_before _ (parts is).1 }

    back : BeginsDate text → begins_date text ≡ true
    back h =
        let front : take 10 text ≡ h.front = rw h.split (take_at h.front h.after 10 h.form.ten) in
        let after : drop 10 text ≡ h.after = rw h.split (drop_at h.front h.after 10 h.form.ten) in
        rw (front, after) ((Decides-and _ _ (Decides-date_form h.front) ((λ e. e), (λ e. e))).1 (h.form, ends_word_before _ h.ends))

date_found : (text : List ℕ) (q : Bool) → begins_date text ≡ true → is_day (take 10 text) ≡ q → FindsIn text (if q then Some (Date, 10) else None)
date_found text false begins day = tt
date_found text true begins day =
    let form : IsDateForm (take 10 text) = ((Decides-and _ _ (Decides-date_form (take 10 text)) ((λ e. e), (λ e. e))).0 begins).0 in
    let ends : ends_word (drop 10 text) ≡ true = ((Decides-and _ _ (Decides-date_form (take 10 text)) ((λ e. e), (λ e. e))).0 begins).1 in
    record {
      front = take 10 text;
      after = drop 10 text;
      begins = record { split = sym (take-append-drop 10 text); form = (Decides-day (take 10 text) form).0 day; ends = ends_before _ ends; no_date = λ e. absurd (cc); no_decimal = λ e. absurd (cc) };
      len = sym form.ten;
    }

number_found : (text : List ℕ) (q : Bool) → 0 < word_len text → begins_date text ≡ false → begins_decimal text ≡ false → (nat_le (word_len text) MAX_DIGITS && list_all is_ascii_digit (take (word_len text) text)) ≡ q → FindsIn text (if q then Some (Number, word_len text) else None)
number_found text false positive no_date no_decimal is = tt
number_found text true positive no_date no_decimal is =
    let both = (Decides-and _ _ (few_decides (word_len text) MAX_DIGITS) (Decides-digits (take (word_len text) text))).0 is in
    let len : length (take (word_len text) text) ≡ word_len text = length-take-le (word_len text) text (run_within text) in
    record {
      front = take (word_len text) text;
      after = drop (word_len text) text;
      begins = record {
        split = sym (take-append-drop (word_len text) text);
        form = record { digits = both.1; nonempty = rw len positive; short = rw len both.0 };
        ends = ends_before _ (run_ends text);
        no_date = λ _ begins. let there : begins_date text ≡ true = (Decides-begins_date text).1 begins in cc;
        no_decimal = λ _ begins. let there : begins_decimal text ≡ true = decimal_back text begins in cc;
      };
      len = sym len;
    }

word_found : (b : ℕ) (text : List ℕ) → begins_word b ≡ true → FindsIn (b ∷ text) (Some (Word, word_len (b ∷ text)))
word_found b text begins = record {
  front = take (word_len (b ∷ text)) (b ∷ text);
  after = drop (word_len (b ∷ text)) (b ∷ text);
  begins = record {
    split = sym (take-append-drop (word_len (b ∷ text)) (b ∷ text));
    form = run_word b text begins;
    ends = ends_before _ (run_ends (b ∷ text));
    no_date = λ e. absurd (cc);
    no_decimal = λ e. absurd (cc);
  };
  len = sym (length-take-le (word_len (b ∷ text)) (b ∷ text) (run_within (b ∷ text)));
}

dollar_found_at : (d b : ℕ) (text : List ℕ) (q : Bool) → d ≡ dollar → begins_word b ≡ q → FindsIn (d ∷ b ∷ text) (if q then Some (Dollar, suc (word_len (b ∷ text))) else None)
dollar_found_at d b text false is begins = tt
dollar_found_at d b text true is begins = record {
  front = d ∷ take (word_len (b ∷ text)) (b ∷ text);
  after = drop (word_len (b ∷ text)) (b ∷ text);
  begins = record {
    split = ap (λ l. d ∷ l) (sym (take-append-drop (word_len (b ∷ text)) (b ∷ text)));
    form = record { name = take (word_len (b ∷ text)) (b ∷ text); is_word = run_word b text begins; printed = rw is refl };
    ends = ends_before _ (run_ends (b ∷ text));
    no_date = λ e. absurd (cc);
    no_decimal = λ e. absurd (cc);
  };
  len = ap suc (sym (length-take-le (word_len (b ∷ text)) (b ∷ text) (run_within (b ∷ text))));
}

dollar_found : (d : ℕ) (text : List ℕ) → d ≡ dollar → FindsIn (d ∷ text) (dollar_token text)
dollar_found d [] is = tt
dollar_found d (b ∷ text) is = dollar_found_at d b text _ is refl

any_after : (kind : TokenKind) (after : List ℕ) → ((b : ℕ) → may_follow_token kind b ≡ true) → EndsBefore kind after
any_after kind [] all = tt
any_after kind (b ∷ after) all = all b

one_byte : (kind : TokenKind) (b : ℕ) (text : List ℕ) → IsOfTokenKind kind (b ∷ []) → ((c : ℕ) → may_follow_token kind c ≡ true) → (kind ≡ Number → ⊥) → Finds (b ∷ text) kind 1
one_byte kind b text form all other = record {
  front = b ∷ [];
  after = text;
  begins = record { split = refl; form = form; ends = any_after kind text all; no_date = λ e. absurd (other e); no_decimal = λ e. absurd (other e) };
  len = refl;
}

is_byte : (b c : ℕ) → (b == c) ≡ true → b ∷ [] ≡ c ∷ []
is_byte b c is = ap (λ x. x ∷ []) ((Decides-eqb b c).0 is)

pub sign_of : Bool → Bool → Bool → Bool → Bool → Bool → Bool → Option TokenKind
sign_of a b c d e f g =
    if a then Some OpenParenthesis else (if b then Some CloseParenthesis
    else (if c then Some Comma else (if d then Some Slash
    else (if e then Some Minus else (if f then Some Star
    else (if g then Some EqualsSign else None))))))

sign_found : (b : ℕ) (text : List ℕ) (o c m s n t e : Bool) → (b == 40) ≡ o → (b == 41) ≡ c → (b == 44) ≡ m → (b == 47) ≡ s → (b == minus) ≡ n → (b == 42) ≡ t → (b == 61) ≡ e → FindsIn (b ∷ text) (option_map (λ kind. (kind, 1)) (sign_of o c m s n t e))
unfolding sign_of
sign_found b text true _ _ _ _ _ _ is _ _ _ _ _ _ = one_byte OpenParenthesis b text (is_byte b 40 is) (λ _. refl) (λ q. cc)
sign_found b text false true _ _ _ _ _ _ is _ _ _ _ _ = one_byte CloseParenthesis b text (is_byte b 41 is) (λ _. refl) (λ q. cc)
sign_found b text false false true _ _ _ _ _ _ is _ _ _ _ = one_byte Comma b text (is_byte b 44 is) (λ _. refl) (λ q. cc)
sign_found b text false false false true _ _ _ _ _ _ is _ _ _ = one_byte Slash b text (is_byte b 47 is) (λ _. refl) (λ q. cc)
sign_found b text false false false false true _ _ _ _ _ _ is _ _ = one_byte Minus b text (is_byte b minus is) (λ _. refl) (λ q. cc)
sign_found b text false false false false false true _ _ _ _ _ _ is _ = one_byte Star b text (is_byte b 42 is) (λ _. refl) (λ q. cc)
sign_found b text false false false false false false true _ _ _ _ _ _ is = one_byte EqualsSign b text (is_byte b 61 is) (λ _. refl) (λ q. cc)
sign_found b text false false false false false false false _ _ _ _ _ _ _ = tt

digit_found : (text : List ℕ) (q r : Bool) → 0 < word_len text → begins_date text ≡ q → begins_decimal text ≡ r → FindsIn text (if q then date_token text else (if r then decimal_token text else number_token text))
digit_found text true r some date decimal = date_found text _ date refl
digit_found text false true some date decimal = decimal_found text _ some decimal refl
digit_found text false false some date decimal = number_found text _ some date decimal refl

found_at : (b : ℕ) (text : List ℕ) (q d w s : Bool) → (b == apostrophe) ≡ q → is_ascii_digit b ≡ d → begins_word b ≡ w → (b == dollar) ≡ s → FindsIn (b ∷ text) (if q then option_map (λ n. (Text, suc n)) (text_len false text) else (if d then digit_token (b ∷ text) else (if w then Some (Word, word_len (b ∷ text)) else (if s then dollar_token text else sign_token b))))
unfolding sign_of
found_at b text true _ _ _ is _ _ _ = text_found b text _ ((Decides-eqb b apostrophe).0 is) (closes text false)
found_at b text false true _ _ _ is _ _ = digit_found (b ∷ text) _ _ (digit_begins (b ∷ text) b text refl ((Decides-digit b).0 is)) refl refl
found_at b text false false true _ _ _ is _ = word_found b text is
found_at b text false false false true _ _ _ is = dollar_found b text ((Decides-eqb b dollar).0 is)
found_at b text false false false false _ _ _ _ = sign_found b text _ _ _ _ _ _ _ refl refl refl refl refl refl refl

pub first_token_found : (text : List ℕ) → FindsIn text (first_token text)
unfolding first_token
first_token_found [] = tt
first_token_found (b ∷ text) = found_at b text _ _ _ _ refl refl refl refl

-- ---- what begins the text is given

given_text : (front after : List ℕ) → IsTextToken front → EndsBefore Text after → first_token (front ++ after) ≡ Some (Text, length front)
given_text front after form ends =
    let seam : (apostrophes_doubled form.content ++ apostrophe ∷ []) ++ after ≡ apostrophes_doubled form.content ++ apostrophe ∷ after = append_assoc (apostrophes_doubled form.content) (apostrophe ∷ []) after in
    let found = text_len-found form.content after ends in
    let len : length (apostrophes_doubled form.content ++ apostrophe ∷ []) ≡ suc (length (apostrophes_doubled form.content)) = length_push (apostrophes_doubled form.content) apostrophe ∙ add-one _ in
    rw (form.printed, first-quote, seam, found, len) refl

number_token-digits : (text front : List ℕ) (n : ℕ) → word_len text ≡ n → take n text ≡ front → list_all is_ascii_digit front ≡ true → nat_le n MAX_DIGITS ≡ true → number_token text ≡ Some (Number, n)
number_token-digits text front n len taken digits short = rw (len, taken, digits, short) refl

given_decimal_at : (b : ℕ) (whole fraction after : List ℕ) → digit_value b < 10 → BeginsDecimal (b ∷ whole ++ point ∷ (fraction ++ after)) → decimal_token (b ∷ whole ++ point ∷ (fraction ++ after)) ≡ Some (Decimal, length (b ∷ whole) + 1 + length fraction) → first_token (b ∷ whole ++ point ∷ (fraction ++ after)) ≡ Some (Decimal, length (b ∷ whole) + 1 + length fraction)
given_decimal_at b whole fraction after small begins token =
    let other : begins_date (b ∷ whole ++ point ∷ (fraction ++ after)) ≡ false = false_from_ne_true _ (λ is. no_date_here _ begins ((Decides-begins_date _).0 is)) in
    rw (first-digit b (whole ++ point ∷ (fraction ++ after)) ((Decides-digit b).1 small), other, decimal_back _ begins) token

decimal_begins : (whole fraction after : List ℕ) → AreDigits whole → AreDigits fraction → 0 < length whole → 0 < length fraction → BeginsDecimal (whole ++ point ∷ (fraction ++ after))
decimal_begins whole [] after before behind some some_behind = absurd (omega arith)
decimal_begins whole (d ∷ fraction) after before behind some some_behind =
    record { whole = whole; digit = d; after = fraction ++ after; split = refl; before = before; some_before = some; behind = (behind.0, tt) }

given_decimal : (front after : List ℕ) → IsDecimal front → EndsBefore Decimal after → first_token (front ++ after) ≡ Some (Decimal, length front)
given_decimal front after form ends =
    let token = decimal_given form.whole form.fraction after form.before form.behind form.few_before form.few_behind (ends_word_before after ends) in
    let begins = decimal_begins form.whole form.fraction after form.before form.behind form.some_before form.some_behind in
    let seam : front ++ after ≡ form.whole ++ point ∷ (form.fraction ++ after) = ap (λ l. l ++ after) form.printed ∙ append_assoc form.whole (point ∷ form.fraction) after in
    let len : length form.whole + 1 + length form.fraction ≡ length front = omega (arith, ap length form.printed, length-append form.whole (point ∷ form.fraction)) in
    rw (seam, ← len) (given_whole form.whole form.fraction after form.before form.some_before begins token)
  where
    given_whole : (whole fraction rest : List ℕ) → AreDigits whole → 0 < length whole → BeginsDecimal (whole ++ point ∷ (fraction ++ rest)) → decimal_token (whole ++ point ∷ (fraction ++ rest)) ≡ Some (Decimal, length whole + 1 + length fraction) → first_token (whole ++ point ∷ (fraction ++ rest)) ≡ Some (Decimal, length whole + 1 + length fraction)
    given_whole [] fraction rest digits some begins token = absurd (omega arith)
    given_whole (b ∷ whole) fraction rest digits some begins token = given_decimal_at b whole fraction rest digits.0 begins token

given_number : (front after : List ℕ) → IsNumberToken front → EndsBefore Number after → ¬ (BeginsDate (front ++ after)) → ¬ (BeginsDecimal (front ++ after)) → first_token (front ++ after) ≡ Some (Number, length front)
given_number [] after form ends no_date no_decimal = absurd (omega (arith, form.nonempty))
given_number (b ∷ front) after form ends no_date no_decimal =
    let digit : is_ascii_digit b ≡ true = (Decides-digit b).1 form.digits.0 in
    let other : begins_date (b ∷ front ++ after) ≡ false = false_from_ne_true _ (λ is. no_date ((Decides-begins_date _).0 is)) in
    let whole : begins_decimal (b ∷ front ++ after) ≡ false = false_from_ne_true _ (λ is. no_decimal (decimal_there _ (digit_begins _ b (front ++ after) refl form.digits.0) is)) in
    let len : word_len (b ∷ front ++ after) ≡ suc (length front) = word_len-append (b ∷ front) after (word_bytes_of_digits (b ∷ front) form.digits) (ends_word_before after ends) in
    let taken : take (suc (length front)) (b ∷ front ++ after) ≡ b ∷ front = take_at (b ∷ front) after _ refl in
    let digits : list_all is_ascii_digit (b ∷ front) ≡ true = (Decides-digits (b ∷ front)).1 form.digits in
    let short : nat_le (suc (length front)) MAX_DIGITS ≡ true = (few_decides _ MAX_DIGITS).1 form.short in
    rw (first-digit b (front ++ after) digit, other, whole) (number_token-digits (b ∷ front ++ after) (b ∷ front) (suc (length front)) len taken digits short)

date_token-day : (text front : List ℕ) → take 10 text ≡ front → is_day front ≡ true → date_token text ≡ Some (Date, 10)
date_token-day text front taken day = ap (λ (t : List ℕ). if is_day t then Some (Date, 10) else None) taken ∙ ap (λ (q : Bool). if q then Some (Date, 10) else None) day

given_date : (front after : List ℕ) → IsDateToken front → EndsBefore Date after → first_token (front ++ after) ≡ Some (Date, length front)
given_date [] after date ends = let e = date.form.ten in cc
given_date (b ∷ front) after date ends =
    let digit : is_ascii_digit b ≡ true = (Decides-digit b).1 date.form.year.0 in
    let begins : begins_date (b ∷ front ++ after) ≡ true = (Decides-begins_date _).1 (record { front = b ∷ front; after = after; split = refl; form = date.form; ends = ends }) in
    let taken : take 10 (b ∷ front ++ after) ≡ b ∷ front = take_at (b ∷ front) after 10 date.form.ten in
    let day : is_day (b ∷ front) ≡ true = (Decides-day (b ∷ front) date.form).1 date in
    let token : date_token (b ∷ front ++ after) ≡ Some (Date, 10) = date_token-day (b ∷ front ++ after) (b ∷ front) taken day in
    let len : Some (Date, 10) ≡ Some (Date, length (b ∷ front)) = ap (λ n. Some (Date, n)) (sym date.form.ten) in
    rw (first-digit b (front ++ after) digit, begins) (token ∙ len)

run_given : (name after : List ℕ) → IsWord name → EndsBefore Word after → word_len (name ++ after) ≡ length name
run_given name after (word {b = b} {bytes = bytes} begins others) ends =
    word_len-append (b ∷ bytes) after (word_byte_of_begin b begins, others) (ends_word_before after ends)

given_word : (front after : List ℕ) → IsWord front → EndsBefore Word after → first_token (front ++ after) ≡ Some (Word, length front)
given_word front after (word {b = b} {bytes = bytes} begins others) ends =
    let len = run_given (b ∷ bytes) after (word begins others) ends in rw (first-word b (bytes ++ after) begins, len) refl

dollar_given : (name after : List ℕ) → IsWord name → EndsBefore Word after → dollar_token (name ++ after) ≡ Some (Dollar, suc (length name))
dollar_given name after (word {b = b} {bytes = bytes} begins others) ends =
    let len = run_given (b ∷ bytes) after (word begins others) ends in rw (begins, len) refl

given_dollar : (front after : List ℕ) → IsDollar front → EndsBefore Dollar after → first_token (front ++ after) ≡ Some (Dollar, length front)
given_dollar front after form ends =
    rw (form.printed, first-dollar (form.name ++ after)) (dollar_given form.name after form.is_word (ends_word_same after ends))
  where
    ends_word_same : (rest : List ℕ) → EndsBefore Dollar rest → EndsBefore Word rest
    ends_word_same [] ends = tt
    ends_word_same (b ∷ rest) ends = ends

given_sign : (kind : TokenKind) (b : ℕ) (front after : List ℕ) → front ≡ b ∷ [] → first_token (b ∷ after) ≡ Some (kind, 1) → first_token (front ++ after) ≡ Some (kind, length front)
given_sign kind b front after is given = rw (is, given) refl

given : (kind : TokenKind) (front after : List ℕ) → IsOfTokenKind kind front → EndsBefore kind after → (kind ≡ Number → ¬ (BeginsDate (front ++ after))) → (kind ≡ Number → ¬ (BeginsDecimal (front ++ after))) → first_token (front ++ after) ≡ Some (kind, length front)
unfolding first_token
given Text front after form ends no_date no_decimal = given_text front after form ends
given Date front after form ends no_date no_decimal = given_date front after form ends
given Decimal front after form ends no_date no_decimal = given_decimal front after form ends
given Number front after form ends no_date no_decimal = given_number front after form ends (no_date refl) (no_decimal refl)
given Word front after form ends no_date no_decimal = given_word front after form ends
given Dollar front after form ends no_date no_decimal = given_dollar front after form ends
given OpenParenthesis front after form ends no_date no_decimal = given_sign _ _ front after form refl
given CloseParenthesis front after form ends no_date no_decimal = given_sign _ _ front after form refl
given Comma front after form ends no_date no_decimal = given_sign _ _ front after form refl
given Slash front after form ends no_date no_decimal = given_sign _ _ front after form refl
given Minus front after form ends no_date no_decimal = given_sign _ _ front after form refl
given Star front after form ends no_date no_decimal = given_sign _ _ front after form refl
given EqualsSign front after form ends no_date no_decimal = given_sign _ _ front after form refl

pub first_token_given : (text : List ℕ) (kind : TokenKind) (front after : List ℕ) → BeginsToken text kind front after → first_token text ≡ Some (kind, length front)
first_token_given text kind front after begins =
    ap first_token begins.split ∙ given kind front after begins.form begins.ends (λ number date. begins.no_date number (rw begins.split date)) (λ number decimal. begins.no_decimal number (rw begins.split decimal))
