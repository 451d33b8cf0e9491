-- Double quotes among sixteen bytes, and texts whose pairs of double quotes are made one.
use Rattle.std.proofs.Common.{◌≡◌, ◌≢◌, inl, inr, ℕ, zero, suc, ◌<◌, ◌≤◌, ◌%◌, ◌^◌, Bool, true, false, cond, eqb, ltb, List, [], ◌∷◌, ◌++◌, ◌&&◌, length, get_or, map, take, replicate, ◌==◌, refl, sym, ap, ◌∙◌, arith, w8}
use Rattle.std.proofs.Math.Utf8.{encode, encodes, scalar, scalars}
use Rattle.std.proofs.lemmas.Bool.{and_parts, cases_eq, eqb-true}
use Rattle.std.proofs.lemmas.Bool.Decides.{nat_tests}
use Rattle.std.proofs.lemmas.Simd.{bitmask_splat, first_set_mask_l}
use Rattle.std.proofs.lemmas.Str.{char_from_byte, encode_ascii, inside_one}
use Rattle.std.specs.Int.{trailing_zeros, w64}
use Rattle.std.specs.List.{list_any, position_or_len}
use Rattle.std.specs.Prelude.{IsUtf8}
use Rattle.std.specs.Simd.Lanes.{zip2, mask_l, top}
use Rattle.csv_grammar.specs.Bytes.{double_quote}
use Rattle.csv_grammar.specs.Raw.{halved}
use Rattle.text_columns.specs.Buffer.{field_content}
use Rattle.text_columns.proofs.ContentLemmas.{halved-apart, halved-other}

-- `to_bitmask` of the comparison of sixteen bytes with a double quote
abbrev pub quotes_of : List ℕ → ℕ
quotes_of block = mask_l (map (top 7) (zip2 (λ a b. cond (eqb a b) 255 0) block (replicate 16 34))) % 2 ^ 64

pub first-quote : (block : List ℕ) → length block ≡ 16 → cond (eqb (quotes_of block) 0) 16 (trailing_zeros w64 (quotes_of block)) ≡ position_or_len (λ byte. byte == double_quote) block
first-quote block long =
    ap (λ m. cond (eqb m 0) 16 (trailing_zeros w64 m)) (bitmask_splat w8 eqb block 16 34 long (omega arith))
    ∙ first_set_mask_l (λ x. eqb x 34) block 16 long (omega arith)

pub first-none : (m first place : ℕ) → cond (eqb m 0) 16 first ≡ place → m ≡ 0 → 16 ≡ place
first-none m first place is none = ap (λ k. cond (eqb k 0) 16 first) (sym none) ∙ is

pub first-some : (m first place : ℕ) → cond (eqb m 0) 16 first ≡ place → m ≢ 0 → first ≡ place
first-some m first place is some = one_of (eqb m 0) refl is
  where
    one_of : (b : Bool) → eqb m 0 ≡ b → cond b 16 first ≡ place → first ≡ place
    one_of true e picked = absurd (some (eqb-true m 0 e))
    one_of false e picked = picked

-- an element of a front passes where the first that passes stands in it
any-first : {X : Type 0} (p : X → Bool) (x : X) (xs : List X) (n : ℕ) (b : Bool) → p x ≡ b → ltb (position_or_len p xs) n ≡ list_any p (take n xs)
    → ltb (position_or_len p (x ∷ xs)) (suc n) ≡ list_any p (take (suc n) (x ∷ xs))
any-first p x xs n true is rest = grind (arith, nat_tests)
any-first p x xs n false is rest = grind (arith, nat_tests)

pub any-front : {X : Type 0} (p : X → Bool) (xs : List X) (n : ℕ) → n ≤ length xs → ltb (position_or_len p xs) n ≡ list_any p (take n xs)
any-front p [] zero le = refl
any-front p [] (suc n) le = absurd (omega arith)
any-front p (x ∷ xs) zero le = grind (arith, nat_tests)
any-front p (x ∷ xs) (suc n) le = any-first p x xs n (p x) refl (any-front p xs n (omega arith))

-- ---- a text whose pairs of double quotes are made one is a text

-- bytes none of which is a double quote stay
halved-front : (xs rest : List ℕ) → ((k : ℕ) → k < length xs → get_or (xs ++ rest) k 0 ≢ 34) → halved (xs ++ rest) ≡ xs ++ halved rest
halved-front [] rest ne = refl
halved-front (x ∷ xs) rest ne = halved-other x (xs ++ rest) (ne 0 (omega arith)) ∙ ap (λ ys. x ∷ ys) (halved-front xs rest (λ k h. ne (suc k) (omega arith)))

-- those of a character that is no double quote
halved-char : (c : ℕ) (rest : List ℕ) → c ≢ 34 → halved (encode c ++ rest) ≡ encode c ++ halved rest
halved-char c rest ne =
    halved-front (encode c) rest (λ k h e. ne (inside_one c rest (encode c ++ rest) k refl h (omega (arith, e)) ∙ e))

-- a double quote before a byte that is none stays
halved-alone : (b : ℕ) (rest : List ℕ) → get_or rest 0 0 ≢ 34 → halved (b ∷ rest) ≡ b ∷ halved rest
halved-alone b [] ne = refl
halved-alone b (c ∷ rest) ne = halved-apart b c rest ne

no-quote : (d : ℕ) (rest : List ℕ) → d ≢ 34 → get_or (encode d ++ rest) 0 0 ≢ 34
no-quote d rest ne e = ne (char_from_byte (encode d ++ rest) rest d refl (omega (arith, e)) (some (encode d ++ rest) e) ∙ e)
  where
    some : (xs : List ℕ) → get_or xs 0 0 ≡ 34 → 0 < length xs
    some [] e = absurd (omega (arith, e))
    some (x ∷ xs) e = omega arith

quote-is : encode 34 ≡ 34 ∷ []
quote-is = encode_ascii 34 (omega arith)

-- a double quote, and what follows it, in bytes and in characters
quote-first : (rest : List ℕ) → encode 34 ++ rest ≡ 34 ∷ rest
quote-first rest = ap (λ front. front ++ rest) quote-is

halved-one : (c : ℕ) → halved (encode c ++ []) ≡ encode c ++ []
halved-one c = elim (cases_eq c 34) [
  | inl is ↦ ap (λ k. halved (encode k ++ [])) is ∙ ap halved (quote-first []) ∙ sym (quote-first []) ∙ ap (λ k. encode k ++ []) (sym is)
  | inr ne ↦ halved-char c [] ne
]

pub halved-encodes : (cs : List ℕ) → halved (encodes cs) ≡ encodes (halved cs)
halved-encodes [] = refl
halved-encodes (c ∷ []) = halved-one c
halved-encodes (c ∷ d ∷ cs) = elim (cases_eq c 34) [
  | inr ne ↦ halved-char c (encodes (d ∷ cs)) ne ∙ ap (λ rest. encode c ++ rest) (halved-encodes (d ∷ cs)) ∙ ap encodes (sym (halved-other c (d ∷ cs) ne))
  | inl first ↦ elim (cases_eq d 34) [
    | inl second ↦
        ap (λ k. halved (encode k ++ encodes (d ∷ cs))) first
        ∙ ap halved (quote-first (encodes (d ∷ cs)))
        ∙ ap (λ k. halved (34 ∷ encode k ++ encodes cs)) second
        ∙ ap (λ rest. halved (34 ∷ rest)) (quote-first (encodes cs))
        ∙ ap (λ rest. 34 ∷ rest) (halved-encodes cs)
        ∙ sym (quote-first (encodes (halved cs)))
        ∙ ap (λ k. encodes (halved (34 ∷ k ∷ cs))) (sym second)
        ∙ ap (λ k. encodes (halved (k ∷ d ∷ cs))) (sym first)
    | inr ne ↦
        ap (λ k. halved (encode k ++ encodes (d ∷ cs))) first
        ∙ ap halved (quote-first (encodes (d ∷ cs)))
        ∙ halved-alone 34 (encodes (d ∷ cs)) (no-quote d (encodes cs) ne)
        ∙ ap (λ rest. 34 ∷ rest) (halved-encodes (d ∷ cs))
        ∙ sym (quote-first (encodes (halved (d ∷ cs))))
        ∙ ap encodes (sym (halved-apart 34 d cs ne))
        ∙ ap (λ k. encodes (halved (k ∷ d ∷ cs))) (sym first)
  ]
]

scalars-more : (c d : ℕ) (cs : List ℕ) (b : Bool) → (c == double_quote && d == double_quote) ≡ b → scalar c ≡ true → scalars (halved (d ∷ cs)) ≡ true → scalars (halved cs) ≡ true
    → scalars (halved (c ∷ d ∷ cs)) ≡ true
scalars-more c d cs true is s one two = rw is (rw two refl)
scalars-more c d cs false is s one two = rw is (rw s one)

pub scalars-halved : (cs : List ℕ) → scalars cs ≡ true → scalars (halved cs) ≡ true
scalars-halved [] s = refl
scalars-halved (c ∷ []) s = s
scalars-halved (c ∷ d ∷ cs) s =
    let first = and_parts (scalar c) (scalars (d ∷ cs)) s in
    let second = and_parts (scalar d) (scalars cs) first.1 in
    scalars-more c d cs (c == double_quote && d == double_quote) refl first.0 (scalars-halved (d ∷ cs) first.1) (scalars-halved cs second.1)

pub IsUtf8-halved : (bytes : List ℕ) → IsUtf8 bytes → IsUtf8 (halved bytes)
IsUtf8-halved bytes (cs, (s, is)) = (halved cs, (scalars-halved cs s, sym (halved-encodes cs) ∙ ap halved is))

-- so what a field says is text
pub IsUtf8-content : (bytes : List ℕ) (q : Bool) → IsUtf8 bytes → IsUtf8 (field_content q bytes)
IsUtf8-content bytes true utf8 = IsUtf8-halved bytes utf8
IsUtf8-content bytes false utf8 = utf8
