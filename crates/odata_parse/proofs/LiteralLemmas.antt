-- What digits and quotes write.
use Rattle.std.proofs.Common.{◌≡◌, ◌≢◌, ℕ, ℤ, pos, neg_ℤ, ◌-ℤ◌, to_z, of_z, zero, suc, ◌+◌, ◌-◌, ◌^◌, ◌<◌, ◌≤◌, ◌==◌, Bool, true, false, List, [], ◌∷◌, ◌++◌, ◌⊎◌, inl, inr, length, take, drop, get_or, IsUtf8, Result, Ok, Err, refl, sym, ap, ◌∙◌, subst, arith, append_assoc, length-append}
use Rattle.std.proofs.iter.FirstChar.{beside_ascii}
use Rattle.std.proofs.Math.Seq.{take-append_seam}
use Rattle.std.proofs.lemmas.Bool.Decides.{nat_tests}
use Rattle.std.proofs.lemmas.Int.{ints}
use Rattle.std.proofs.lemmas.List.{take-append-drop}
use Rattle.std.proofs.lemmas.Str.Parse.{IsNumeralModel, numerals_by_value, tells_digits, digits_value_short, parse_signed_digits}
use Rattle.std.specs.List.{slice_range}
use Rattle.std.specs.Result.{IsOk}
use Rattle.std.specs.Str.{IsCharBoundary}
use Rattle.std.specs.Str.Parse.{AllDigits, digits_value, ParsesSigned}
use Rattle.odata_lex.specs.Token.{apostrophe, apostrophes_doubled, IsTextToken, IsNumberToken, TokenOf}
use Rattle.odata_lex.specs.declared.token.TokenKind.{TokenKind}
use Rattle.odata_lex.specs.declared.token.TokenKind.TheVariants.{Text, Date, Decimal, Number, Word, Dollar, OpenParenthesis, CloseParenthesis, Comma, Slash, Minus, Star, EqualsSign}
use Rattle.odata_parse.proofs.KeywordLemmas.{one_keyword, null_word, true_word, false_word}
use Rattle.odata_parse.specs.Literal.{Quotes, IsWordLiteral, IsLiteralOfKind, IsLiteral, ReadsLiteral, one_token, behind_minus, ReadsNegative, negative_number, negative_decimal}
use Rattle.odata_parse.specs.Parsing.{Finds}
use Rattle.odata_parse.specs.declared.fault.PhraseFault.{PhraseFault}
use Rattle.odata_parse.specs.declared.tree.Literal.{Literal}
use Rattle.odata_parse.specs.Tree.{literal_view, LiteralOf, null, boolean, number, text, date, decimal}
use mir.Syntax.{w128}

own : IsNumeralModel (AllDigits 10) (digits_value 10)
own = numerals_by_value _ tells_digits

-- 38 digits write a number below 2 to the 127
pub number_fits : (digits : List ℕ) → IsNumberToken digits → digits_value 10 digits < 2 ^ 127
number_fits digits n = omega (arith, digits_value_short own digits 38 n.digits n.short)

pub number_parses : {E : Type 0} (digits : List ℕ) (r : Result ℤ E) → ParsesSigned w128 10 digits r → IsNumberToken digits → IsOk r
number_parses digits (Ok x) h n = refl
number_parses digits (Err e) h n = absurd (parse_signed_digits own w128 digits (Err e) h n.digits (n.nonempty, number_fits digits n))

-- a content from its first byte on
doubled_cases : (b : ℕ) (bytes : List ℕ) (t : Bool) → (b == apostrophe) ≡ t → ((b ≡ 39) × (apostrophes_doubled (b ∷ bytes) ≡ 39 ∷ 39 ∷ apostrophes_doubled bytes)) ⊎ ((b ≢ 39) × (apostrophes_doubled (b ∷ bytes) ≡ b ∷ apostrophes_doubled bytes))
doubled_cases b bytes true e = inl (grind (arith, nat_tests), rw e refl)
doubled_cases b bytes false e = inr (grind (arith, nat_tests), rw e refl)

pub doubled_first : (b : ℕ) (bytes : List ℕ) → ((b ≡ 39) × (apostrophes_doubled (b ∷ bytes) ≡ 39 ∷ 39 ∷ apostrophes_doubled bytes)) ⊎ ((b ≢ 39) × (apostrophes_doubled (b ∷ bytes) ≡ b ∷ apostrophes_doubled bytes))
doubled_first b bytes = doubled_cases b bytes (b == apostrophe) refl

-- In d, which is these bytes with doubled quotes, a quote stands at k and another one after it.
pub record IsPair (d bytes : List ℕ) (k : ℕ) : Type 0 where
  pub front : take (suc k) d ≡ take (suc k) bytes
  pub back : drop (suc (suc k)) d ≡ apostrophes_doubled (drop (suc k) bytes)
  pub within : suc (suc k) ≤ length d
  pub second : get_or d (suc k) 0 ≡ 39

pair_here : (b : ℕ) (bytes : List ℕ) (k : ℕ) → b ≡ 39 → ((i : ℕ) → i < k → get_or (39 ∷ 39 ∷ apostrophes_doubled bytes) i 0 ≢ 39) → IsPair (39 ∷ 39 ∷ apostrophes_doubled bytes) (b ∷ bytes) k
pair_here b bytes zero is none = record {
  front = rw is refl;
  back = refl;
  within = omega arith;
  second = refl;
}
pair_here b bytes (suc k) is none = absurd (none 0 (omega arith) refl)

pair_later : (b : ℕ) (d bytes : List ℕ) (k : ℕ) → b ≢ 39 → ((j : ℕ) → j < length d → get_or d j 0 ≡ 39 → ((i : ℕ) → i < j → get_or d i 0 ≢ 39) → IsPair d bytes j) → k < length (b ∷ d) → get_or (b ∷ d) k 0 ≡ 39 → ((i : ℕ) → i < k → get_or (b ∷ d) i 0 ≢ 39) → IsPair (b ∷ d) (b ∷ bytes) k
pair_later b d bytes zero other later within is none = absurd (other is)
pair_later b d bytes (suc k) other later within is none =
    let p = later k (omega arith) is (λ i h. none (suc i) (omega arith)) in
    record {
      front = ap (λ (s : List ℕ). b ∷ s) p.front;
      back = p.back;
      within = omega (arith, p.within);
      second = p.second;
    }

doubled_pair_more : (b : ℕ) (bytes : List ℕ) (k : ℕ) → ((b ≡ 39) × (apostrophes_doubled (b ∷ bytes) ≡ 39 ∷ 39 ∷ apostrophes_doubled bytes)) ⊎ ((b ≢ 39) × (apostrophes_doubled (b ∷ bytes) ≡ b ∷ apostrophes_doubled bytes)) → ((j : ℕ) → j < length (apostrophes_doubled bytes) → get_or (apostrophes_doubled bytes) j 0 ≡ 39 → ((i : ℕ) → i < j → get_or (apostrophes_doubled bytes) i 0 ≢ 39) → IsPair (apostrophes_doubled bytes) bytes j) → k < length (apostrophes_doubled (b ∷ bytes)) → get_or (apostrophes_doubled (b ∷ bytes)) k 0 ≡ 39 → ((i : ℕ) → i < k → get_or (apostrophes_doubled (b ∷ bytes)) i 0 ≢ 39) → IsPair (apostrophes_doubled (b ∷ bytes)) (b ∷ bytes) k
doubled_pair_more b bytes k (inl p) later within is none = subst (λ (d : List ℕ). ((i : ℕ) → i < k → get_or d i 0 ≢ 39) → IsPair d (b ∷ bytes) k) (sym p.1) (pair_here b bytes k p.0) none
doubled_pair_more b bytes k (inr p) later within is none = subst (λ (d : List ℕ). k < length d → get_or d k 0 ≡ 39 → ((i : ℕ) → i < k → get_or d i 0 ≢ 39) → IsPair d (b ∷ bytes) k) (sym p.1) (pair_later b (apostrophes_doubled bytes) bytes k p.0 later) within is none

doubled_same_more : (b : ℕ) (bytes : List ℕ) → ((b ≡ 39) × (apostrophes_doubled (b ∷ bytes) ≡ 39 ∷ 39 ∷ apostrophes_doubled bytes)) ⊎ ((b ≢ 39) × (apostrophes_doubled (b ∷ bytes) ≡ b ∷ apostrophes_doubled bytes)) → (((i : ℕ) → i < length (apostrophes_doubled bytes) → get_or (apostrophes_doubled bytes) i 0 ≢ 39) → apostrophes_doubled bytes ≡ bytes) → ((i : ℕ) → i < length (apostrophes_doubled (b ∷ bytes)) → get_or (apostrophes_doubled (b ∷ bytes)) i 0 ≢ 39) → apostrophes_doubled (b ∷ bytes) ≡ b ∷ bytes
doubled_same_more b bytes (inl p) same none = absurd (subst (λ (d : List ℕ). ((i : ℕ) → i < length d → get_or d i 0 ≢ 39) → ⊥) (sym p.1) (λ h. h 0 (omega arith) refl) none)
doubled_same_more b bytes (inr p) same none = p.1 ∙ ap (λ (s : List ℕ). b ∷ s) (same (subst (λ (d : List ℕ). ((i : ℕ) → i < length d → get_or d i 0 ≢ 39) → (i : ℕ) → i < length (apostrophes_doubled bytes) → get_or (apostrophes_doubled bytes) i 0 ≢ 39) (sym p.1) (λ h i short. h (suc i) (omega arith)) none))

pub doubled_pair : (bytes : List ℕ) (k : ℕ) → k < length (apostrophes_doubled bytes) → get_or (apostrophes_doubled bytes) k 0 ≡ 39 → ((i : ℕ) → i < k → get_or (apostrophes_doubled bytes) i 0 ≢ 39) → IsPair (apostrophes_doubled bytes) bytes k
doubled_pair [] k within is none = absurd (omega arith)
doubled_pair (b ∷ bytes) k within is none = doubled_pair_more b bytes k (doubled_first b bytes) (λ j h e before. doubled_pair bytes j h e before) within is none

-- bytes without a quote double to themselves
doubled_same : (bytes : List ℕ) → ((i : ℕ) → i < length (apostrophes_doubled bytes) → get_or (apostrophes_doubled bytes) i 0 ≢ 39) → apostrophes_doubled bytes ≡ bytes
doubled_same [] none = refl
doubled_same (b ∷ bytes) none = doubled_same_more b bytes (doubled_first b bytes) (λ h. doubled_same bytes h) none

-- the content so far and what is left after it, as the text has it doubled
pub record Unquoting (quoted content rest : List ℕ) : Type 0 where
  pub left : List ℕ
  pub is_doubled : rest ≡ apostrophes_doubled left
  pub whole : Quotes (content ++ left) quoted

pub Unquoting-init : (quoted rest : List ℕ) → IsTextToken quoted → rest ≡ slice_range quoted 1 (length quoted - 1) → Unquoting quoted [] rest
Unquoting-init quoted rest t is = record {
  left = t.content;
  is_doubled =
      let n : length quoted ≡ suc (length (apostrophes_doubled t.content ++ apostrophe ∷ [])) = ap length t.printed in
      let m : length quoted - 1 - 1 ≡ length (apostrophes_doubled t.content) = omega (arith, n, length-append (apostrophes_doubled t.content) (apostrophe ∷ [])) in
      let cut : drop 1 quoted ≡ apostrophes_doubled t.content ++ apostrophe ∷ [] = ap (λ (s : List ℕ). drop 1 s) t.printed in
      is ∙ (rw (m, cut) (take-append_seam (apostrophes_doubled t.content) (apostrophe ∷ [])));
  whole = t.printed;
}

-- the content lies between two bytes
pub text_long : (quoted : List ℕ) → IsTextToken quoted → 2 ≤ length quoted
text_long quoted t = omega (arith, ap length t.printed, length-append (apostrophes_doubled t.content) (apostrophe ∷ []))

pub Unquoting-more : (quoted content more rest after : List ℕ) (k : ℕ) → Unquoting quoted content rest → k < length rest → get_or rest k 0 ≡ 39 → ((i : ℕ) → i < k → get_or rest i 0 ≢ 39) → more ≡ content ++ take (k + 1) rest → after ≡ drop (k + 2) rest → Unquoting quoted more after
Unquoting-more quoted content more rest after k u within is none pushed cut =
    let p = doubled_pair u.left k (rw u.is_doubled at within) (rw u.is_doubled at is) (subst (λ (d : List ℕ). (i : ℕ) → i < k → get_or d i 0 ≢ 39) u.is_doubled none) in
    let one : k + 1 ≡ suc k = omega arith in
    let two : k + 2 ≡ suc (suc k) = omega arith in
    let joined : more ++ drop (suc k) u.left ≡ content ++ u.left = rw (pushed, one, u.is_doubled, p.front, append_assoc, take-append-drop) refl in
    record {
      left = drop (suc k) u.left;
      is_doubled = cut ∙ (rw (two, u.is_doubled) p.back);
      whole = rw joined u.whole;
    }

pub Unquoting-end : (quoted content rest : List ℕ) → Unquoting quoted content rest → ((i : ℕ) → i < length rest → get_or rest i 0 ≢ 39) → Quotes (content ++ rest) quoted
Unquoting-end quoted content rest u none =
    let same = doubled_same u.left (subst (λ (d : List ℕ). (i : ℕ) → i < length d → get_or d i 0 ≢ 39) u.is_doubled none) in
    let r : rest ≡ u.left = u.is_doubled ∙ same in rw r u.whole

-- after the first quote of the rest stands another one
pub Unquoting-second : (quoted content rest : List ℕ) (k : ℕ) → Unquoting quoted content rest → k < length rest → get_or rest k 0 ≡ 39 → ((i : ℕ) → i < k → get_or rest i 0 ≢ 39) → (k + 2 ≤ length rest) × (get_or rest (k + 1) 0 ≡ 39)
Unquoting-second quoted content rest k u within is none =
    let p = doubled_pair u.left k (rw u.is_doubled at within) (rw u.is_doubled at is) (subst (λ (d : List ℕ). (i : ℕ) → i < k → get_or d i 0 ≢ 39) u.is_doubled none) in
    let one : k + 1 ≡ suc k = omega arith in
    rw u.is_doubled (omega (arith, p.within), rw one p.second)

-- after a quote a character begins
pub quote_boundary : (bytes : List ℕ) (k : ℕ) → IsUtf8 bytes → k < length bytes → get_or bytes k 0 ≡ 39 → IsCharBoundary bytes (k + 1)
quote_boundary bytes k utf8 within is = (beside_ascii bytes k utf8 within (omega (arith, is))).1

-- a number that fits is negated without loss
pub negated : (d : ℕ) (z : ℤ) → z ≡ pos d → d < 2 ^ 127 → to_z w128 (of_z w128 (pos 0 -ℤ to_z w128 (of_z w128 z))) ≡ neg_ℤ (pos d)
negated d z is small = omega (arith, ints)

-- a token that is one value is no other one
pub IsWordLiteral-unique : (bytes : List ℕ) (v w : LiteralOf) → IsWordLiteral bytes v → IsWordLiteral bytes w → v ≡ w
IsWordLiteral-unique bytes null null h k = refl
IsWordLiteral-unique bytes null (boolean true) h k = absurd (let e = one_keyword null_word true_word h k in cc)
IsWordLiteral-unique bytes null (boolean false) h k = absurd (let e = one_keyword null_word false_word h k in cc)
IsWordLiteral-unique bytes null (number n) h k = absurd k
IsWordLiteral-unique bytes null (text t) h k = absurd k
IsWordLiteral-unique bytes null (date y m d) h k = absurd k
IsWordLiteral-unique bytes null (decimal n) h k = absurd k
IsWordLiteral-unique bytes (boolean true) null h k = absurd (let e = one_keyword true_word null_word h k in cc)
IsWordLiteral-unique bytes (boolean true) (boolean true) h k = refl
IsWordLiteral-unique bytes (boolean true) (boolean false) h k = absurd (let e = one_keyword true_word false_word h k in cc)
IsWordLiteral-unique bytes (boolean true) (number n) h k = absurd k
IsWordLiteral-unique bytes (boolean true) (text t) h k = absurd k
IsWordLiteral-unique bytes (boolean true) (date y m d) h k = absurd k
IsWordLiteral-unique bytes (boolean true) (decimal n) h k = absurd k
IsWordLiteral-unique bytes (boolean false) null h k = absurd (let e = one_keyword false_word null_word h k in cc)
IsWordLiteral-unique bytes (boolean false) (boolean true) h k = absurd (let e = one_keyword false_word true_word h k in cc)
IsWordLiteral-unique bytes (boolean false) (boolean false) h k = refl
IsWordLiteral-unique bytes (boolean false) (number n) h k = absurd k
IsWordLiteral-unique bytes (boolean false) (text t) h k = absurd k
IsWordLiteral-unique bytes (boolean false) (date y m d) h k = absurd k
IsWordLiteral-unique bytes (boolean false) (decimal n) h k = absurd k
IsWordLiteral-unique bytes (number n) w h k = absurd h
IsWordLiteral-unique bytes (text t) w h k = absurd h
IsWordLiteral-unique bytes (date y m d) w h k = absurd h
IsWordLiteral-unique bytes (decimal n) w h k = absurd h

-- contents that are doubled alike are one
doubled_empty : (c : List ℕ) → 1 ≡ length (apostrophes_doubled c ++ 39 ∷ []) → [] ≡ c
doubled_empty [] e = refl
doubled_empty (b ∷ c) e = elim (doubled_first b c) as (λ _. [] ≡ b ∷ c) [
  | inl p ↦ absurd (omega (arith, e, ap (λ (s : List ℕ). length (s ++ 39 ∷ [])) p.1))
  | inr p ↦ absurd (omega (arith, e, ap (λ (s : List ℕ). length (s ++ 39 ∷ [])) p.1, length-append (apostrophes_doubled c) (39 ∷ [])))
]

doubled_injective_more : (a b : ℕ) (c d x y : List ℕ) → ((a ≡ 39) × (x ≡ 39 ∷ 39 ∷ apostrophes_doubled c)) ⊎ ((a ≢ 39) × (x ≡ a ∷ apostrophes_doubled c)) → ((b ≡ 39) × (y ≡ 39 ∷ 39 ∷ apostrophes_doubled d)) ⊎ ((b ≢ 39) × (y ≡ b ∷ apostrophes_doubled d)) → x ++ 39 ∷ [] ≡ y ++ 39 ∷ [] → (a ≡ b) × (apostrophes_doubled c ++ 39 ∷ [] ≡ apostrophes_doubled d ++ 39 ∷ [])
doubled_injective_more a b c d x y (inl p) (inl q) e = (p.0 ∙ sym q.0, let k : 39 ∷ 39 ∷ (apostrophes_doubled c ++ 39 ∷ []) ≡ 39 ∷ 39 ∷ (apostrophes_doubled d ++ 39 ∷ []) = rw (p.1, q.1) at e in cc)
doubled_injective_more a b c d x y (inl p) (inr q) e = absurd (q.0 (let k : 39 ∷ 39 ∷ (apostrophes_doubled c ++ 39 ∷ []) ≡ b ∷ (apostrophes_doubled d ++ 39 ∷ []) = rw (p.1, q.1) at e in cc))
doubled_injective_more a b c d x y (inr p) (inl q) e = absurd (p.0 (let k : a ∷ (apostrophes_doubled c ++ 39 ∷ []) ≡ 39 ∷ 39 ∷ (apostrophes_doubled d ++ 39 ∷ []) = rw (p.1, q.1) at e in cc))
doubled_injective_more a b c d x y (inr p) (inr q) e = let k : a ∷ (apostrophes_doubled c ++ 39 ∷ []) ≡ b ∷ (apostrophes_doubled d ++ 39 ∷ []) = rw (p.1, q.1) at e in ((cc), (cc))

doubled_injective : (c d : List ℕ) → apostrophes_doubled c ++ 39 ∷ [] ≡ apostrophes_doubled d ++ 39 ∷ [] → c ≡ d
doubled_injective [] d e = doubled_empty d (ap length e)
doubled_injective (a ∷ c) [] e = sym (doubled_empty (a ∷ c) (sym (ap length e)))
doubled_injective (a ∷ c) (b ∷ d) e =
    let p = doubled_injective_more a b c d (apostrophes_doubled (a ∷ c)) (apostrophes_doubled (b ∷ d)) (doubled_first a c) (doubled_first b d) e in
    let q = doubled_injective c d p.1 in cc

Quotes-unique : (c d bytes : List ℕ) → Quotes c bytes → Quotes d bytes → c ≡ d
Quotes-unique c d bytes h k = doubled_injective c d (let e : apostrophe ∷ (apostrophes_doubled c ++ apostrophe ∷ []) ≡ apostrophe ∷ (apostrophes_doubled d ++ apostrophe ∷ []) = sym h ∙ k in cc)

IsLiteralOfKind-unique : (kind : TokenKind) (bytes : List ℕ) (v w : LiteralOf) → IsLiteralOfKind kind bytes v → IsLiteralOfKind kind bytes w → v ≡ w
IsLiteralOfKind-unique Number bytes v w h k = h ∙ sym k
IsLiteralOfKind-unique Date bytes v w h k = h ∙ sym k
IsLiteralOfKind-unique Decimal bytes v w h k = h ∙ sym k
IsLiteralOfKind-unique Text bytes v w h k = h.2 ∙ ap text (Quotes-unique h.0 k.0 bytes h.1 k.1) ∙ sym k.2
IsLiteralOfKind-unique Word bytes v w h k = IsWordLiteral-unique bytes v w h k
IsLiteralOfKind-unique Dollar bytes v w h k = absurd h
IsLiteralOfKind-unique OpenParenthesis bytes v w h k = absurd h
IsLiteralOfKind-unique CloseParenthesis bytes v w h k = absurd h
IsLiteralOfKind-unique Comma bytes v w h k = absurd h
IsLiteralOfKind-unique Slash bytes v w h k = absurd h
IsLiteralOfKind-unique Minus bytes v w h k = absurd h
IsLiteralOfKind-unique Star bytes v w h k = absurd h
IsLiteralOfKind-unique EqualsSign bytes v w h k = absurd h

pub IsLiteral-unique : (t : TokenOf) (v w : LiteralOf) → IsLiteral t v → IsLiteral t w → v ≡ w
IsLiteral-unique t v w h k = IsLiteralOfKind-unique t.kind t.text v w h k

pub ReadsLiteral-one : {t : TokenOf} {before after : List TokenOf} {v : LiteralOf} → ReadsLiteral (t ∷ before) v after → t.kind ≢ Minus → IsLiteral t v × (before ≡ after)
ReadsLiteral-one (one_token h) other = (h, refl)
ReadsLiteral-one (behind_minus s r) other = absurd (other s)

no_minus : (t : TokenOf) (v : LiteralOf) → IsLiteral t v → t.kind ≢ Minus
no_minus t v h m = absurd (subst (λ (kind : TokenKind). IsLiteralOfKind kind t.text v) m h)

pub ReadsLiteral-minus : {t : TokenOf} {before after : List TokenOf} {v : LiteralOf} → ReadsLiteral (t ∷ before) v after → t.kind ≡ Minus → ReadsNegative before v after
ReadsLiteral-minus {t} {v = v} (one_token h) is = absurd (no_minus t v h is)
ReadsLiteral-minus (behind_minus s r) is = r

not_both : (kind : TokenKind) → kind ≡ Number → kind ≡ Decimal → ⊥
not_both kind n d = let e : Number ≡ Decimal = sym n ∙ d in cc

-- tokens are one value, and end after it
pub negative_only : {old now after : List TokenOf} {v w : LiteralOf} → ReadsNegative old v now → ReadsNegative old w after → (v ≡ w) × (now ≡ after)
negative_only (negative_number n e) (negative_number k d) = (rw (e, d) refl, refl)
negative_only (negative_number {t = t} n e) (negative_decimal k d) = absurd (not_both t.kind n k)
negative_only (negative_decimal {t = t} n e) (negative_number k d) = absurd (not_both t.kind k n)
negative_only (negative_decimal n e) (negative_decimal k d) = (rw (e, d) refl, refl)

pub value_only : {old now after : List TokenOf} {v w : LiteralOf} → ReadsLiteral old v now → ReadsLiteral old w after → (v ≡ w) × (now ≡ after)
value_only {w} (one_token {t} {v} h) s = let q = ReadsLiteral-one s (no_minus t v h) in (IsLiteral-unique t v w h q.0, q.1)
value_only (behind_minus m r) s = negative_only r (ReadsLiteral-minus s m)

pub found_behind_minus : (sign : TokenOf) (before : List TokenOf) (r : Result Literal PhraseFault) (new : List TokenOf) → sign.kind ≡ Minus → Finds literal_view ReadsNegative before r new → Finds literal_view ReadsLiteral (sign ∷ before) r new
found_behind_minus sign before (Ok v) new is h = behind_minus is h
found_behind_minus sign before (Err e) new is h = tt
