-- Pairs of double quotes: what halving makes of a text, piece by piece.
use Rattle.std.proofs.Common.{◌≡◌, ◌≢◌, ℕ, suc, ◌<◌, ◌≤◌, List, [], ◌∷◌, ◌++◌, length, length-append, take, drop, true, false, Bool, None, subst, ◌==◌, append_assoc, refl, ap, ◌∙◌, sym, arith}
use Rattle.std.proofs.lemmas.Bool.{or_parts}
use Rattle.std.proofs.lemmas.Bool.Decides.{nat_tests}
use Rattle.std.proofs.lemmas.List.{take-append-drop, length-take}
use Rattle.std.specs.Bool.{MatchBool}
use Rattle.std.specs.List.{list_any}
use Rattle.std.specs.Str.Pattern.{LacksTextAt, FindsText, SplitsAroundMatch, HasMatch}
use Rattle.csv_grammar.specs.Bytes.{double_quote}
use Rattle.csv_grammar.specs.Records.{Field, unquoted, quoted, content, doubled}
use Rattle.csv_grammar.specs.Raw.{RawField, raw_of, field_of, raw_content, halved}

-- a double quote as it is written inside a quoted field
abbrev pub pair : List ℕ
pair = 34 ∷ 34 ∷ []

-- a byte at which no pair begins stays
pub halved-step : (b : ℕ) (rest : List ℕ) → ((more : List ℕ) → b ∷ rest ≢ 34 ∷ 34 ∷ more) → halved (b ∷ rest) ≡ b ∷ halved rest
halved-step b [] lacks = refl
halved-step b (c ∷ rest) lacks =
    let apart : b ≡ 34 → c ≡ 34 → ⊥ = λ p q. lacks rest (cc) in
    grind (arith, nat_tests)

-- a byte that is no double quote stays
pub halved-other : (b : ℕ) (rest : List ℕ) → b ≢ 34 → halved (b ∷ rest) ≡ b ∷ halved rest
halved-other b rest ne = halved-step b rest (λ more e. ne (cc))

-- doubling the double quotes is undone
pub halved-doubled : (content : List ℕ) → halved (doubled content) ≡ content
halved-doubled [] = refl
halved-doubled (b ∷ content) = grind (arith, nat_tests, halved-other, halved-doubled content)

-- the pair that stands first, and what is on both sides of it
pub halved-split : (front behind : List ℕ) → ((i : ℕ) → i < length front → LacksTextAt pair (front ++ 34 ∷ 34 ∷ behind) i)
    → halved (front ++ 34 ∷ 34 ∷ behind) ≡ front ++ 34 ∷ halved behind
halved-split [] behind lacks = refl
halved-split (b ∷ front) behind lacks =
    halved-step b (front ++ 34 ∷ 34 ∷ behind) (lacks 0 (omega arith))
    ∙ ap (λ rest. b ∷ rest) (halved-split front behind (λ i h. lacks (suc i) (omega arith)))

-- a text with no pair stays
pub halved-whole : (bytes : List ℕ) → ((i : ℕ) → i ≤ length bytes → LacksTextAt pair bytes i) → halved bytes ≡ bytes
halved-whole [] lacks = refl
halved-whole (b ∷ bytes) lacks =
    halved-step b bytes (lacks 0 (omega arith))
    ∙ ap (λ rest. b ∷ rest) (halved-whole bytes (λ i h. lacks (suc i) (omega arith)))

-- halving never lengthens
pub length-halved : (bytes : List ℕ) → length (halved bytes) ≤ length bytes
length-halved [] = omega arith
length-halved (b ∷ []) = omega arith
length-halved (b ∷ c ∷ bytes) = grind (arith, length-halved bytes, length-halved (c ∷ bytes))

-- the same, where the text is known to be those pieces
pub halved-pieces : (bytes front behind : List ℕ) → bytes ≡ front ++ 34 ∷ 34 ∷ behind → ((i : ℕ) → i < length front → LacksTextAt pair bytes i)
    → halved bytes ≡ front ++ 34 ∷ halved behind
halved-pieces bytes front behind whole lacks = rw whole (halved-split front behind (rw whole at lacks))

-- around the pair that stands first
pub halved-around : (bytes front behind : List ℕ) → SplitsAroundMatch (FindsText pair) bytes front behind → halved bytes ≡ front ++ 34 ∷ halved behind
halved-around bytes front behind around =
    let rest : drop around.0 bytes ≡ 34 ∷ 34 ∷ behind = rw around.4 around.2.1.split in
    let parts : front ++ drop around.0 bytes ≡ bytes = rw around.3 (take-append-drop around.0 bytes) in
    halved-pieces bytes front behind (sym parts ∙ ap (λ xs. front ++ xs) rest) (λ i h. around.2.0 i (omega (arith, around.6)))

-- one turn of the loop: the front is written after what was, and the pair as one
pub halved-turn : (text before written rest front behind : List ℕ) → halved text ≡ before ++ halved rest → SplitsAroundMatch (FindsText pair) rest front behind
    → written ≡ (before ++ front) ++ 34 ∷ [] → halved text ≡ written ++ halved behind
halved-turn text before written rest front behind so_far around grown =
    so_far ∙ ap (λ xs. before ++ xs) (halved-around rest front behind around) ∙ rw grown (simp append_assoc)

-- halving shortens a text with a pair
pub halved-shorter : (bytes front behind : List ℕ) → bytes ≡ front ++ 34 ∷ 34 ∷ behind → halved bytes ≡ front ++ 34 ∷ halved behind → halved bytes ≢ bytes
halved-shorter bytes front behind whole halves e =
    omega (arith, length-halved behind, simp length-append at (ap length whole), simp length-append at (ap length halves), ap length e)

pub halved-differs : (bytes : List ℕ) → HasMatch (FindsText pair) bytes → halved bytes ≢ bytes
halved-differs bytes (i, j, found, le, fits) =
    let rest : drop i bytes ≡ 34 ∷ 34 ∷ drop j bytes = found.1.split in
    let whole : bytes ≡ take i bytes ++ 34 ∷ 34 ∷ drop j bytes = sym (take-append-drop i bytes) ∙ ap (λ xs. take i bytes ++ xs) rest in
    let lacks : (k : ℕ) → k < length (take i bytes) → LacksTextAt pair bytes k = λ k h. found.0 k (omega (arith, length-take i bytes)) in
    halved-shorter bytes (take i bytes) (drop j bytes) whole (halved-pieces bytes (take i bytes) (drop j bytes) whole lacks)

-- so the search for a pair tells whether halving changes the text
pub pair_changes : (bytes : List ℕ) (b : Bool) → MatchBool b (HasMatch (FindsText pair) bytes) (FindsText pair bytes None) → MatchBool b (halved bytes ≢ bytes) (halved bytes ≡ bytes)
pair_changes bytes true found = halved-differs bytes found
pair_changes bytes false lacks = halved-whole bytes lacks

-- nor does a text with no double quote
pub halved-no_quote : (bytes : List ℕ) → list_any (λ byte. byte == double_quote) bytes ≡ false → halved bytes ≡ bytes
halved-no_quote [] none = refl
halved-no_quote (b ∷ bytes) none =
    let parts = or_parts (b == double_quote) (list_any (λ byte. byte == double_quote) bytes) none in
    halved-other b bytes (λ e. let same : (34 == double_quote) ≡ false = subst (λ k. (k == double_quote) ≡ false) e parts.0 in absurd (cc)) ∙ ap (λ rest. b ∷ rest) (halved-no_quote bytes parts.1)

-- what stands so is the field
pub field_of-raw_of : (field : Field) → field_of (raw_of field) ≡ field
field_of-raw_of (unquoted bytes) = refl
field_of-raw_of (quoted inside) = ap (λ bytes. quoted bytes) (halved-doubled inside)

-- the content of a field is that of how it stands
pub content-from_raw : (field : Field) (raw : RawField) → raw_of field ≡ raw → raw_content raw ≡ content field
content-from_raw field raw e = ap raw_content (sym e) ∙ ap content (field_of-raw_of field)
