-- Encodings and what they stand for.
use Rattle.std.proofs.Common.{◌≡◌, ◌≢◌, ℕ, ◌<◌, ◌/◌, ◌%◌, Bool, true, false, cond, ◌&&◌, List, [], ◌∷◌, ◌++◌, Option, Some, None, refl, sym, ap, subst, ◌∙◌, arith, ⊎_elim}
use Rattle.std.specs.Prelude.{◌==◌, option_map}
use Rattle.std.specs.Char.{is_ascii_hexdigit, digit_value}
use Rattle.std.specs.Fmt.{digit_glyph}
use Rattle.std.specs.List.{AllByRecursion}
use Rattle.std.proofs.lemmas.Bool.{cases_Bool, cond-true, cond-false, and_parts, eqb-true, eqb-false, ne_eqb}
use Rattle.std.proofs.lemmas.Bool.Decides.{nat_tests}
use Rattle.std.proofs.lemmas.Option.{none-some}
use Rattle.percent_encoding.specs.Percent.{percent_encode_byte}
use Rattle.odata_url.specs.Escapes.{percent_sign, octet, octets_of}
use Rattle.odata_url.specs.Laws.{Encodes, nothing, itself, escape, escaped_text}

-- octets after a first one
octets_after : (first : ℕ) (o : Option (List ℕ)) (octets : List ℕ) → option_map (λ rest. first ∷ rest) o ≡ Some octets → (rest : List ℕ) × (o ≡ Some rest) × (first ∷ rest ≡ octets)
octets_after first None octets whole = cc
octets_after first (Some rest) octets whole = (rest, refl, cc)

-- where a test fails, what stands after it is there
some-if : {A : Type 0} (test : Bool) (o other : Option A) (y : A) → test ≡ true → cond test o other ≡ Some y → o ≡ Some y
some-if test o other y is whole = sym (cond-true test o other is) ∙ whole

some-unless : {A : Type 0} (test : Bool) (o other : Option A) (y : A) → test ≡ false → cond test o other ≡ Some y → other ≡ Some y
some-unless test o other y is whole = sym (cond-false test o other is) ∙ whole

-- a byte that stands for itself comes first
Encodes-itself : (b : ℕ) (text octets : List ℕ) (o : Option (List ℕ)) → (b == percent_sign) ≡ false → option_map (λ rest. b ∷ rest) o ≡ Some octets → ((rest : List ℕ) → o ≡ Some rest → Encodes text rest) → Encodes (b ∷ text) octets
Encodes-itself b text octets o other whole behind =
    let rest = octets_after b o octets whole in
    subst (Encodes (b ∷ text)) rest.2 (itself b text rest.0 (eqb-false b percent_sign other) (behind rest.0 rest.1))

-- an escape does
Encodes-escape : (b high low : ℕ) (text octets : List ℕ) (o : Option (List ℕ)) → (b == percent_sign) ≡ true → (is_ascii_hexdigit high && is_ascii_hexdigit low) ≡ true → option_map (λ rest. octet high low ∷ rest) o ≡ Some octets → ((rest : List ℕ) → o ≡ Some rest → Encodes text rest) → Encodes (b ∷ high ∷ low ∷ text) octets
Encodes-escape b high low text octets o percent hex whole behind =
    let rest = octets_after (octet high low) o octets whole in
    let both = and_parts (is_ascii_hexdigit high) (is_ascii_hexdigit low) hex in
    subst (λ first. Encodes (first ∷ high ∷ low ∷ text) octets) (sym (eqb-true b percent_sign percent))
    (subst (Encodes (percent_sign ∷ high ∷ low ∷ text)) rest.2 (escape high low text rest.0 both.0 both.1 (behind rest.0 rest.1)))

pub Encodes-octets_of : (text octets : List ℕ) → octets_of text ≡ Some octets → Encodes text octets
Encodes-octets_of [] octets whole =
    let none : [] ≡ octets = cc in
    subst (Encodes []) none nothing
Encodes-octets_of (b ∷ []) octets whole =
    ⊎_elim
    (λ is. absurd (none-some octets (some-if (b == percent_sign) None (Some (b ∷ [])) octets is whole)))
    (λ other. Encodes-itself b [] octets (Some []) other (some-unless (b == percent_sign) None (Some (b ∷ [])) octets other whole) (Encodes-octets_of []))
    (cases_Bool (b == percent_sign))
Encodes-octets_of (b ∷ c ∷ []) octets whole =
    let behind = option_map (λ rest. b ∷ rest) (octets_of (c ∷ [])) in
    ⊎_elim
    (λ is. absurd (none-some octets (some-if (b == percent_sign) None behind octets is whole)))
    (λ other. Encodes-itself b (c ∷ []) octets (octets_of (c ∷ [])) other (some-unless (b == percent_sign) None behind octets other whole) (Encodes-octets_of (c ∷ [])))
    (cases_Bool (b == percent_sign))
Encodes-octets_of (b ∷ high ∷ low ∷ text) octets whole =
    let hex = is_ascii_hexdigit high && is_ascii_hexdigit low in
    let behind = option_map (λ rest. b ∷ rest) (octets_of (high ∷ low ∷ text)) in
    let escaped = option_map (λ rest. octet high low ∷ rest) (octets_of text) in
    ⊎_elim
    (λ is.
    let first = some-if (b == percent_sign) (cond hex escaped None) behind octets is whole in
    ⊎_elim
    (λ good. Encodes-escape b high low text octets (octets_of text) is good (some-if hex escaped None octets good first) (Encodes-octets_of text))
    (λ bad. absurd (none-some octets (some-unless hex escaped None octets bad first)))
    (cases_Bool hex))
    (λ other. Encodes-itself b (high ∷ low ∷ text) octets (octets_of (high ∷ low ∷ text)) other (some-unless (b == percent_sign) (cond hex escaped None) behind octets other whole) (Encodes-octets_of (high ∷ low ∷ text)))
    (cases_Bool (b == percent_sign))

-- the octets of a text that a byte other than `%` begins
pub octets_of-itself : (b : ℕ) (text octets : List ℕ) → b ≢ percent_sign → octets_of text ≡ Some octets → octets_of (b ∷ text) ≡ Some (b ∷ octets)
octets_of-itself b [] octets other whole = rw (ne_eqb b percent_sign other) (ap (option_map (λ rest. b ∷ rest)) whole)
octets_of-itself b (c ∷ []) octets other whole = rw (ne_eqb b percent_sign other) (ap (option_map (λ rest. b ∷ rest)) whole)
octets_of-itself b (high ∷ low ∷ text) octets other whole = rw (ne_eqb b percent_sign other) (ap (option_map (λ rest. b ∷ rest)) whole)

-- and of one that an escape begins
pub octets_of-escape : (high low : ℕ) (text octets : List ℕ) → is_ascii_hexdigit high ≡ true → is_ascii_hexdigit low ≡ true → octets_of text ≡ Some octets → octets_of (percent_sign ∷ high ∷ low ∷ text) ≡ Some (octet high low ∷ octets)
octets_of-escape high low text octets first second whole = rw (first, second, whole)

pub octets_of-Encodes : (text octets : List ℕ) → Encodes text octets → octets_of text ≡ Some octets
octets_of-Encodes text octets nothing = refl
octets_of-Encodes text octets (itself b rest octets' other behind) = octets_of-itself b rest octets' other (octets_of-Encodes rest octets' behind)
octets_of-Encodes text octets (escape high low rest octets' first second behind) = octets_of-escape high low rest octets' first second (octets_of-Encodes rest octets' behind)

pub octets_of-plain : (text : List ℕ) → AllByRecursion (λ b. b ≢ percent_sign) text → octets_of text ≡ Some text
octets_of-plain [] plain = refl
octets_of-plain (b ∷ text) plain = octets_of-itself b text text plain.0 (octets_of-plain text plain.1)

glyph_is_hex : (d : ℕ) → d < 16 → is_ascii_hexdigit (digit_glyph true d) ≡ true
glyph_is_hex d small = grind (arith, nat_tests)

-- the value of a hexadecimal digit in capitals
pub value_of_glyph : (d : ℕ) → d < 16 → digit_value (digit_glyph true d) ≡ d
value_of_glyph d small = grind (arith, nat_tests)

octet_of_glyphs : (b : ℕ) → b < 256 → octet (digit_glyph true (b / 16 % 16)) (digit_glyph true (b % 16)) ≡ b
octet_of_glyphs b small = rw (value_of_glyph (b / 16 % 16) (omega arith), value_of_glyph (b % 16) (omega arith)) (omega arith)

octets_of-escaped_byte : (b : ℕ) (text octets : List ℕ) → b < 256 → octets_of text ≡ Some octets → octets_of (percent_encode_byte b ++ text) ≡ Some (b ∷ octets)
unfolding percent_encode_byte
octets_of-escaped_byte b text octets small whole =
    octets_of-escape (digit_glyph true (b / 16 % 16)) (digit_glyph true (b % 16)) text octets (glyph_is_hex (b / 16 % 16) (omega arith)) (glyph_is_hex (b % 16) (omega arith)) whole
    ∙ ap (λ first. Some (first ∷ octets)) (octet_of_glyphs b small)

pub octets_of-escaped_text : (octets : List ℕ) → AllByRecursion (λ b. b < 256) octets → octets_of (escaped_text octets) ≡ Some octets
octets_of-escaped_text [] bytes = refl
octets_of-escaped_text (b ∷ octets) bytes = octets_of-escaped_byte b (escaped_text octets) octets bytes.0 (octets_of-escaped_text octets bytes.1)
