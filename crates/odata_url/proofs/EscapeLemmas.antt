-- Broken escapes, and the octets of a text without one.
use Rattle.std.proofs.Common.{◌≡◌, ℕ, Bool, true, false, cond, not, ◌&&◌, ◌||◌, List, [], ◌∷◌, Option, Some, None, Ok, Err, IsUtf8, refl, sym, ap, ◌<◌, ◌∙◌, arith, ⊎_elim}
use Rattle.std.specs.Prelude.{◌==◌, option_map}
use Rattle.std.specs.Option.{is_none}
use Rattle.std.specs.Char.{is_ascii_hexdigit, digit_value}
use Rattle.std.proofs.lemmas.Bool.{cases_Bool, cond-true, cond-false, and_parts, eqb-true, eqb-false, true≢false}
use Rattle.std.proofs.lemmas.Bool.Decides.{nat_tests}
use Rattle.std.specs.Str.{is_utf8}
use Rattle.std.proofs.lemmas.Str.{IsUtf8-from_is_utf8, is_utf8-from_IsUtf8}
use Rattle.percent_encoding.specs.Percent.{percent_decode}
use Rattle.percent_encoding.proofs.PercentLemmas.{percent_decode-nil, percent_decode_escape, percent_decode_not_percent}
use Rattle.odata_url.specs.Escapes.{percent_sign, octet, begins_with_digits, octets_of, utf8_text, decoded_text}
use Rattle.odata_url.specs.declared.fault.UrlFault.TheVariants.{BadEscape, BadUtf8}

-- some `%` is not followed by two hexadecimal digits
abbrev pub is_broken : List ℕ → Bool
is_broken [] = false
is_broken (b ∷ text) = (b == percent_sign && not (begins_with_digits text)) || is_broken text

is_none-option_map : {A B : Type 0} (f : A → B) (o : Option A) → is_none (option_map f o) ≡ is_none o
is_none-option_map f None = refl
is_none-option_map f (Some x) = refl

digit_not_percent : (c : ℕ) → is_ascii_hexdigit c ≡ true → (c == 37) ≡ false
digit_not_percent c hex = grind (arith, nat_tests)

-- a byte that is no `%` begins the text
past_byte : (percent hex broken : Bool) (f : List ℕ → List ℕ) (o other : Option (List ℕ)) → percent ≡ false → broken ≡ is_none o → ((percent && not hex) || broken) ≡ is_none (cond percent other (option_map f o))
past_byte percent hex broken f o other none same = rw none (same ∙ sym (is_none-option_map f o))

-- a `%` with no digits after it begins the text
at_broken : (percent hex broken : Bool) (whole other : Option (List ℕ)) → percent ≡ true → hex ≡ false → ((percent && not hex) || broken) ≡ is_none (cond percent (cond hex whole None) other)
at_broken percent hex broken whole other is bad = rw (is, bad)

-- an escape begins the text
past_escape : (percent hex broken : Bool) (f : List ℕ → List ℕ) (o other : Option (List ℕ)) → percent ≡ true → hex ≡ true → broken ≡ is_none o → ((percent && not hex) || broken) ≡ is_none (cond percent (cond hex (option_map f o) None) other)
past_escape percent hex broken f o other is good same = rw (is, good) (same ∙ sym (is_none-option_map f o))

-- digits are no `%`
is_broken-digits : (high low : ℕ) (text : List ℕ) → (is_ascii_hexdigit high && is_ascii_hexdigit low) ≡ true → is_broken (high ∷ low ∷ text) ≡ is_broken text
is_broken-digits high low text hex =
    let both = and_parts (is_ascii_hexdigit high) (is_ascii_hexdigit low) hex in
    rw (digit_not_percent high both.0, digit_not_percent low both.1)

pub is_broken-octets_of : (text : List ℕ) → is_broken text ≡ is_none (octets_of text)
is_broken-octets_of [] = refl
is_broken-octets_of (b ∷ []) =
    ⊎_elim
    (λ is. at_broken (b == percent_sign) false false None (Some (b ∷ [])) is refl)
    (λ none. past_byte (b == percent_sign) false false (λ octets. b ∷ octets) (Some []) None none refl)
    (cases_Bool (b == percent_sign))
is_broken-octets_of (b ∷ c ∷ []) =
    ⊎_elim
    (λ is. at_broken (b == percent_sign) false (is_broken (c ∷ [])) None (option_map (λ octets. b ∷ octets) (octets_of (c ∷ []))) is refl)
    (λ none. past_byte (b == percent_sign) false (is_broken (c ∷ [])) (λ octets. b ∷ octets) (octets_of (c ∷ [])) None none (is_broken-octets_of (c ∷ [])))
    (cases_Bool (b == percent_sign))
is_broken-octets_of (b ∷ high ∷ low ∷ text) =
    let hex = is_ascii_hexdigit high && is_ascii_hexdigit low in
    let other = option_map (λ octets. b ∷ octets) (octets_of (high ∷ low ∷ text)) in
    let whole = option_map (λ octets. octet high low ∷ octets) (octets_of text) in
    ⊎_elim
    (λ is. ⊎_elim
    (λ good. past_escape (b == percent_sign) hex (is_broken (high ∷ low ∷ text)) (λ octets. octet high low ∷ octets) (octets_of text) other is good (is_broken-digits high low text good ∙ is_broken-octets_of text))
    (λ bad. at_broken (b == percent_sign) hex (is_broken (high ∷ low ∷ text)) whole other is bad)
    (cases_Bool hex))
    (λ none. past_byte (b == percent_sign) hex (is_broken (high ∷ low ∷ text)) (λ octets. b ∷ octets) (octets_of (high ∷ low ∷ text)) (cond hex whole None) none (is_broken-octets_of (high ∷ low ∷ text)))
    (cases_Bool (b == percent_sign))

is_none-from_map : {A B : Type 0} (f : A → B) (o : Option A) → is_none (option_map f o) ≡ false → is_none o ≡ false
is_none-from_map f o some = sym (is_none-option_map f o) ∙ some

hex_digit : (c : ℕ) → is_ascii_hexdigit c ≡ true → digit_value c < 16
hex_digit c hex = grind (arith, nat_tests)

-- decoding gives a byte that is no `%`, and then what it gives of the text after it
decode-byte : (b : ℕ) (text : List ℕ) (o other : Option (List ℕ)) → (b == percent_sign) ≡ false → o ≡ Some (percent_decode text) → cond (b == percent_sign) other (option_map (λ octets. b ∷ octets) o) ≡ Some (percent_decode (b ∷ text))
decode-byte b text o other none is = rw (none, is) (ap Some (sym (percent_decode_not_percent b text (eqb-false b percent_sign none))))

-- and an escape's octet likewise
decode-escape : (b high low : ℕ) (text : List ℕ) (o other : Option (List ℕ)) → (b == percent_sign) ≡ true → (is_ascii_hexdigit high && is_ascii_hexdigit low) ≡ true → o ≡ Some (percent_decode text) → cond (b == percent_sign) (cond (is_ascii_hexdigit high && is_ascii_hexdigit low) (option_map (λ octets. octet high low ∷ octets) o) None) other ≡ Some (percent_decode (b ∷ high ∷ low ∷ text))
decode-escape b high low text o other percent hex is =
    let both = and_parts (is_ascii_hexdigit high) (is_ascii_hexdigit low) hex in
    rw (percent, hex, is) (ap Some (sym (percent_decode_escape b high low text (eqb-true b percent_sign percent) (hex_digit high both.0) (hex_digit low both.1))))

-- what a test keeps is there where the whole is
some_if : (test : Bool) (o other : Option (List ℕ)) → test ≡ true → is_none (cond test o other) ≡ false → is_none o ≡ false
some_if test o other is some = sym (ap is_none (cond-true test o other is)) ∙ some

some_unless : (test : Bool) (o other : Option (List ℕ)) → test ≡ false → is_none (cond test o other) ≡ false → is_none other ≡ false
some_unless test o other is some = sym (ap is_none (cond-false test o other is)) ∙ some

nothing : {A : Type 0} → is_none {T = List ℕ} None ≡ false → A
nothing none = absurd (true≢false none)

pub octets_of-percent_decode : (text : List ℕ) → is_none (octets_of text) ≡ false → octets_of text ≡ Some (percent_decode text)
octets_of-percent_decode [] some = rw percent_decode-nil
octets_of-percent_decode (b ∷ []) some =
    ⊎_elim
    (λ is. nothing (some_if (b == percent_sign) None (Some (b ∷ [])) is some))
    (λ none. decode-byte b [] (Some []) None none (ap Some (sym percent_decode-nil)))
    (cases_Bool (b == percent_sign))
octets_of-percent_decode (b ∷ c ∷ []) some =
    let behind = octets_of (c ∷ []) in
    let whole = option_map (λ octets. b ∷ octets) behind in
    ⊎_elim
    (λ is. nothing (some_if (b == percent_sign) None whole is some))
    (λ none. decode-byte b (c ∷ []) behind None none (octets_of-percent_decode (c ∷ []) (is_none-from_map (λ octets. b ∷ octets) behind (some_unless (b == percent_sign) None whole none some))))
    (cases_Bool (b == percent_sign))
octets_of-percent_decode (b ∷ high ∷ low ∷ text) some =
    let hex = is_ascii_hexdigit high && is_ascii_hexdigit low in
    let behind = octets_of (high ∷ low ∷ text) in
    let other = option_map (λ octets. b ∷ octets) behind in
    let whole = option_map (λ octets. octet high low ∷ octets) (octets_of text) in
    ⊎_elim
    (λ is.
    let escape = some_if (b == percent_sign) (cond hex whole None) other is some in
    ⊎_elim
    (λ good. decode-escape b high low text (octets_of text) other is good (octets_of-percent_decode text (is_none-from_map (λ octets. octet high low ∷ octets) (octets_of text) (some_if hex whole None good escape))))
    (λ bad. nothing (some_unless hex whole None bad escape))
    (cases_Bool hex))
    (λ none. decode-byte b (high ∷ low ∷ text) behind (cond hex whole None) none (octets_of-percent_decode (high ∷ low ∷ text) (is_none-from_map (λ octets. b ∷ octets) behind (some_unless (b == percent_sign) (cond hex whole None) other none some))))
    (cases_Bool (b == percent_sign))

-- the text that decoding gives
pub decoded_text-broken : (text : List ℕ) → is_none (octets_of text) ≡ true → decoded_text text ≡ Err BadEscape
unfolding decoded_text
decoded_text-broken text none = broken_text (octets_of text) none
  where
    broken_text : (o : Option (List ℕ)) → is_none o ≡ true → utf8_text o ≡ Err BadEscape
    broken_text None none = refl
    broken_text (Some octets) none = absurd (true≢false (sym none))

pub decoded_text-utf8 : (text : List ℕ) → is_none (octets_of text) ≡ false → IsUtf8 (percent_decode text) → decoded_text text ≡ Ok (percent_decode text)
unfolding decoded_text
decoded_text-utf8 text some utf8 = rw (octets_of-percent_decode text some, is_utf8-from_IsUtf8 (percent_decode text) utf8)

pub decoded_text-not_utf8 : (text : List ℕ) → is_none (octets_of text) ≡ false → (IsUtf8 (percent_decode text) → ⊥) → decoded_text text ≡ Err BadUtf8
unfolding decoded_text
decoded_text-not_utf8 text some other =
    let not_utf8 : is_utf8 (percent_decode text) ≡ false = ⊎_elim (λ utf8. absurd (other (IsUtf8-from_is_utf8 (percent_decode text) utf8))) (λ is. is) (cases_Bool (is_utf8 (percent_decode text))) in
    rw (octets_of-percent_decode text some, not_utf8)
