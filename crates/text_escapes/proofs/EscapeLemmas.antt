-- Texts that are written out.
use Rattle.std.proofs.Common.{◌≡◌, ◌≢◌, ◌==◌, ◌/◌, ◌%◌, ◌∙◌, ◌++◌, ◌<◌, ◌≤◌, ℕ, Bool, true, false, List, [], ◌∷◌, length, get_or, refl, sym, ap, ap₂, arith, if◌then◌else◌}
use Rattle.std.specs.Char.{encode_utf8, digit_char, digit_value}
use Rattle.std.specs.List.{flat_map}
use Rattle.std.specs.Str.{IsUtf8, NoCharPasses, NonePass, chars, encode_utf8_all}
use Rattle.std.proofs.lemmas.Bool.{eqb-false, false≢true}
use Rattle.std.proofs.lemmas.List.Elements.{All-from_get_or}
use Rattle.std.proofs.lemmas.Str.{NoCharPasses-append, NoCharPasses-byte, chars-encodes, chars_past_char, digit_value-digit_char, encodes-append, encodes-chars, encodes_same}
use Rattle.text_escapes.specs.Escapes.{backslash, is_control, four_hex_digits, written, escaped}
use Rattle.text_escapes.specs.Laws.{IsOneLine, HasNoBackslash}

-- ---- a character after the other

pub escaped-empty : (text : List ℕ) → length text ≡ 0 → escaped text ≡ []
unfolding escaped chars
escaped-empty [] h = refl
escaped-empty (b ∷ text) h = cc

pub escaped-step : (text rest : List ℕ) (c : ℕ) → IsUtf8 text → text ≡ encode_utf8 c ++ rest → escaped text ≡ encode_utf8_all (written c) ++ escaped rest
unfolding escaped
escaped-step text rest c h e = ap (λ cs. encode_utf8_all (flat_map written cs)) (chars_past_char text rest c h e) ∙ encodes-append (written c) (flat_map written (chars rest))

-- ---- what stands in a text that is written out

plain : (c : ℕ) → 32 ≤ c → c < 127 → is_control c ≡ false
plain c low high = grind arith

digit_plain : (d : ℕ) → d < 16 → is_control (digit_char d) ≡ false
digit_plain d h = grind (arith, plain)

written_plain : (c : ℕ) → NonePass is_control (written c)
written_plain c = go (is_control c) refl
  where
    go : (b : Bool) → is_control c ≡ b → NonePass is_control (if b then backslash ∷ 117 ∷ four_hex_digits c else c ∷ [])
    go true h =
        (refl, (refl, (digit_plain (c / 4096 % 16) (omega arith), (digit_plain (c / 256 % 16) (omega arith), (digit_plain (c / 16 % 16) (omega arith), (digit_plain (c % 16) (omega arith), tt))))))
    go false h = (h, tt)

all_plain : (cs : List ℕ) → NoCharPasses is_control (encode_utf8_all (flat_map written cs))
all_plain [] = ([], refl, tt)
all_plain (c ∷ cs) = rw (encodes-append (written c) (flat_map written cs))
    (NoCharPasses-append is_control (encode_utf8_all (written c)) (encode_utf8_all (flat_map written cs)) (written c, refl, written_plain c) (all_plain cs))

no_break : (text : List ℕ) → NoCharPasses is_control text → (i : ℕ) → i < length text → (get_or text i 0 ≢ 10) × (get_or text i 0 ≢ 13)
no_break text h i fits = (
  λ e. go (get_or text i 0) 10 e refl (λ small. NoCharPasses-byte is_control text i h fits small) (omega arith),
  λ e. go (get_or text i 0) 13 e refl (λ small. NoCharPasses-byte is_control text i h fits small) (omega arith),
)
  where
    go : (b n : ℕ) → b ≡ n → is_control n ≡ true → (b < 128 → is_control b ≡ false) → b < 128 → ⊥
    go b n e holds fails small = absurd (false≢true (sym (fails small) ∙ ap is_control e ∙ holds))

-- a text without control characters is one line
pub one_line : (text : List ℕ) → NoCharPasses is_control text → IsOneLine text
one_line text h = record { breaks = All-from_get_or (λ byte. (byte ≢ 10) × (byte ≢ 13)) text 0 (no_break text h); controls = h }

pub escaped-one_line : (text : List ℕ) → IsOneLine (escaped text)
unfolding escaped
escaped-one_line text = one_line (escaped text) (all_plain (chars text))

-- ---- texts without control characters

stays : (cs : List ℕ) → NonePass is_control cs → flat_map written cs ≡ cs
stays [] h = refl
stays (c ∷ cs) (plain, h) = rw (plain, stays cs h) refl

-- the characters of such a text pass no test that its bytes do not
chars_none : (p : ℕ → Bool) (text : List ℕ) → IsUtf8 text → NoCharPasses p text → NonePass p (chars text)
chars_none p text (ds, (scalar, is)) (cs, e, none) =
    let same : cs ≡ ds = encodes_same cs ds (e ∙ sym is) in
    let all : chars text ≡ cs = ap chars (sym is) ∙ chars-encodes ds scalar ∙ sym same in
    rw all none

pub plain-stays : (text : List ℕ) → IsUtf8 text → NoCharPasses is_control text → escaped text ≡ text
unfolding escaped
plain-stays text h none = ap encode_utf8_all (stays (chars text) (chars_none is_control text h none)) ∙ encodes-chars text h

-- ---- texts without backslashes

control_small : (c : ℕ) → is_control c ≡ true → c < 160
control_small c h = grind arith

digit_same : (c d : ℕ) → c < 16 → d < 16 → digit_char c ≡ digit_char d → c ≡ d
digit_same c d h k e = sym (digit_value-digit_char c (omega arith)) ∙ ap digit_value e ∙ digit_value-digit_char d (omega arith)

control_same : (c d : ℕ) → c < 160 → d < 160 → c / 16 % 16 ≡ d / 16 % 16 → c % 16 ≡ d % 16 → c ≡ d
control_same c d h k high low = omega arith

-- the texts that are written for two characters which are no backslash, with others after them
pub both_same : (c d : ℕ) (b e : Bool) (xs ys : List ℕ) → is_control c ≡ b → is_control d ≡ e → (c == backslash) ≡ false → (d == backslash) ≡ false
    → (if b then backslash ∷ 117 ∷ four_hex_digits c else c ∷ []) ++ xs ≡ (if e then backslash ∷ 117 ∷ four_hex_digits d else d ∷ []) ++ ys → (c ≡ d) × (xs ≡ ys)
both_same c d true true xs ys h k lacks none same =
    let high : digit_char (c / 16 % 16) ≡ digit_char (d / 16 % 16) = cc in
    let low : digit_char (c % 16) ≡ digit_char (d % 16) = cc in
    (control_same c d (control_small c h) (control_small d k) (digit_same (c / 16 % 16) (d / 16 % 16) (omega arith) (omega arith) high) (digit_same (c % 16) (d % 16) (omega arith) (omega arith) low), cc)
both_same c d true false xs ys h k lacks none same = absurd (eqb-false d backslash none (cc))
both_same c d false true xs ys h k lacks none same = absurd (eqb-false c backslash lacks (cc))
both_same c d false false xs ys h k lacks none same = (cc, cc)

begun : (d : ℕ) (b : Bool) (ys : List ℕ) → [] ≡ (if b then backslash ∷ 117 ∷ four_hex_digits d else d ∷ []) ++ ys → ⊥
begun d true ys e = cc
begun d false ys e = cc

all_same : (cs ds : List ℕ) → NonePass (λ c. c == backslash) cs → NonePass (λ c. c == backslash) ds → flat_map written cs ≡ flat_map written ds → cs ≡ ds
all_same [] [] h k e = refl
all_same [] (d ∷ ds) h k e = absurd (begun d (is_control d) (flat_map written ds) e)
all_same (c ∷ cs) [] h k e = absurd (begun c (is_control c) (flat_map written cs) (sym e))
all_same (c ∷ cs) (d ∷ ds) (lacks, h) (none, k) e =
    let both = both_same c d (is_control c) (is_control d) (flat_map written cs) (flat_map written ds) refl refl lacks none e in
    ap₂ (λ x xs. x ∷ xs) both.0 (all_same cs ds h k both.1)

pub texts_same : (a b : List ℕ) → IsUtf8 a → IsUtf8 b → HasNoBackslash a → HasNoBackslash b → escaped a ≡ escaped b → a ≡ b
unfolding escaped
texts_same a b h k lacks none e =
    let written_same = encodes_same (flat_map written (chars a)) (flat_map written (chars b)) e in
    let same = all_same (chars a) (chars b) (chars_none (λ c. c == backslash) a h lacks) (chars_none (λ c. c == backslash) b k none) written_same in
    sym (encodes-chars a h) ∙ ap encode_utf8_all same ∙ encodes-chars b k
