-- The double quotes of a field are characters of their own.
use Rattle.std.proofs.Common.{◌≡◌, ℕ, suc, ◌∷◌, ◌-◌, List, [], length, get_or, take, max, true, refl, subst, sym, ap, arith}
use Rattle.std.specs.Prelude.{IsUtf8}
use Rattle.std.specs.List.{slice_range}
use Rattle.std.specs.Str.{is_utf8, IsCharBoundary}
use Rattle.std.proofs.lemmas.Str.{IsCharBoundary-after_ascii, IsCharBoundary-from_take, IsUtf8-append, IsUtf8-from_ascii, IsUtf8-from_is_utf8}
use Rattle.std.proofs.lemmas.Str.Ascii.{IsAscii-cons, IsAscii-nil}
use Rattle.csv_grammar.specs.Bytes.{double_quote}
use Rattle.csv_fields.specs.Between.{raw_between, unwrapped, without_return}

-- a text that begins with a double quote is one and a text
pub behind_quote : (field : List ℕ) → IsUtf8 field → get_or field 0 0 ≡ double_quote → IsCharBoundary field 1
behind_quote [] utf8 first = absurd (omega (arith, first))
behind_quote (b ∷ bytes) utf8 first = IsCharBoundary-after_ascii (b ∷ bytes) 0 utf8 (omega arith) (omega (arith, first))

-- what is between the double quotes is text, so the last of them is a character of its own
pub before_quote : (field piece : List ℕ) (end : ℕ) → IsUtf8 field → get_or field 0 0 ≡ double_quote → end ≡ max (length field - 1) 1
    → is_utf8 (raw_between piece).bytes ≡ true → field ≡ without_return piece → IsCharBoundary field end
before_quote [] piece end utf8 first at text is = absurd (omega (arith, first))
before_quote (b ∷ []) piece end utf8 first at text is = (omega (arith, at), λ within. absurd (omega (arith, at, within)))
before_quote (b ∷ c ∷ bytes) piece end utf8 first at text is =
    let whole : (unwrapped (b ∷ c ∷ bytes)).bytes ≡ slice_range (b ∷ c ∷ bytes) 1 (length (b ∷ c ∷ bytes) - 1) = rw first refl in
    let inner : is_utf8 (slice_range (b ∷ c ∷ bytes) 1 (length (b ∷ c ∷ bytes) - 1)) ≡ true =
    subst (λ t. is_utf8 t ≡ true) whole (subst (λ t. is_utf8 (unwrapped t).bytes ≡ true) (sym is) text) in
    let same : slice_range (b ∷ c ∷ bytes) 1 (length (b ∷ c ∷ bytes) - 1) ≡ take (length bytes) (c ∷ bytes) = ap (λ k. take k (c ∷ bytes)) (omega arith) in
    let front : IsUtf8 (b ∷ take (length bytes) (c ∷ bytes)) =
    IsUtf8-append (b ∷ []) (take (length bytes) (c ∷ bytes)) (IsUtf8-from_ascii (b ∷ []) (IsAscii-cons b [] (omega (arith, first)) IsAscii-nil))
    (subst IsUtf8 same (IsUtf8-from_is_utf8 _ inner)) in
    let here : end ≡ suc (length bytes) = omega (arith, at) in
    IsCharBoundary-from_take (b ∷ c ∷ bytes) end utf8 (omega (arith, here)) (subst (λ k. IsUtf8 (take k (b ∷ c ∷ bytes))) (sym here) front)
