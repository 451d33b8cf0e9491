-- The text of bytes, and that of others after them.
use Rattle.std.proofs.Common.{◌≡◌, ◌∙◌, ◌<◌, ◌≤◌, ◌+◌, ◌-◌, ◌⊎◌, inl, inr, ℕ, Bool, true, false, List, [], ◌∷◌, ◌++◌, length, get_or, take, drop, map, IsUtf8, ap, ap₂, refl, sym, subst, append_assoc, append-nil, length-append, arith}
use Rattle.std.specs.Prelude.{encode_utf8_all}
use Rattle.std.specs.Str.{IsCharBoundary}
use Rattle.std.proofs.Math.Seq.{take-append_seam}
use Rattle.std.proofs.lemmas.List.{drop_at, get_or_append_left, get_or-append_right}
use Rattle.std.proofs.lemmas.Str.{IsCharBoundary-after_ascii, IsUtf8-append, IsUtf8-drop, IsUtf8-nil, IsUtf8-take}
use Rattle.text_encodings.specs.declared.encoding.Encoding.{Encoding}
use Rattle.text_encodings.specs.declared.encoding.Encoding.TheVariants.{Utf8, MarkedUtf8, Utf16Little, Utf16Big, Windows1252}
use Rattle.text_encodings.specs.declared.utf16.ByteOrder.TheVariants.{Little, Big}
use Rattle.text_encodings.specs.Decoders.{Decodes, EndsPlain, EndsSo, IsFrontIn, MayEnd, mark_of}
use Rattle.text_encodings.specs.Encodings.{IsTextIn}
use Rattle.text_encodings.specs.Windows1252.{char_of_byte}
use Rattle.text_encodings.proofs.Utf16Lemmas.{no_text, text_more, utf16_more}

-- ---- bytes that end in one of ASCII
cut : (a b : List ℕ) → 0 < length a → EndsPlain a → IsUtf8 (a ++ b) → IsCharBoundary (a ++ b) (length a)
cut a b some plain utf8 =
    let at = length a - 1 in
    let less : at < length a = omega (arith, some) in
    let last : get_or (a ++ b) at 0 < 128 = omega (arith, get_or_append_left a b 0 at less, plain) in
    let next : at + 1 ≡ length a = omega (arith, some) in
    subst (IsCharBoundary (a ++ b)) next (IsCharBoundary-after_ascii (a ++ b) at utf8 (omega (arith, less, length-append a b)) last)

front_utf8 : (a b : List ℕ) → EndsPlain a → IsUtf8 (a ++ b) → IsUtf8 a
front_utf8 [] b plain utf8 = IsUtf8-nil
front_utf8 (x ∷ a) b plain utf8 =
    subst IsUtf8 (take-append_seam (x ∷ a) b)
    (IsUtf8-take ((x ∷ a) ++ b) (length (x ∷ a)) utf8 (cut (x ∷ a) b (omega arith) plain utf8))

rest_utf8 : (a b : List ℕ) → EndsPlain a → IsUtf8 (a ++ b) → IsUtf8 b
rest_utf8 [] b plain utf8 = utf8
rest_utf8 (x ∷ a) b plain utf8 =
    subst IsUtf8 (drop_at (x ∷ a) b (length (x ∷ a)) refl)
    (IsUtf8-drop ((x ∷ a) ++ b) (length (x ∷ a)) utf8 (cut (x ∷ a) b (omega arith) plain utf8))

ends_more : (a b : List ℕ) → EndsPlain a → EndsPlain b → EndsPlain (a ++ b)
ends_more a [] one other = subst EndsPlain (sym (append-nil a)) one
ends_more a (x ∷ b) one other =
    let at = length (a ++ x ∷ b) - 1 in
    let long = length-append a (x ∷ b) in
    let past : length a ≤ at = omega (arith, long) in
    let same : at - length a ≡ length (x ∷ b) - 1 = omega (arith, long) in
    omega (arith, get_or-append_right a (x ∷ b) (length a) at 0 refl past, ap (λ i. get_or (x ∷ b) i 0) same, other)

-- ---- a text, and more of it
abbrev windows : List ℕ → List ℕ
windows bytes = encode_utf8_all (map char_of_byte bytes)

windows_more : (front text bytes part : List ℕ) → text ≡ windows front → part ≡ windows bytes → text ++ part ≡ windows (front ++ bytes)
windows_more front text bytes part a b = ap₂ (λ x y. x ++ y) a b ∙ text_more char_of_byte front bytes

utf8_more : (front text bytes part : List ℕ) → IsTextIn Utf8 front text → IsTextIn Utf8 bytes part → IsTextIn Utf8 (front ++ bytes) (text ++ part)
utf8_more front text bytes part a b = (IsUtf8-append text part a.0 b.0, ap₂ (λ x y. x ++ y) a.1 b.1)

marked_more : (front text bytes part : List ℕ) → IsTextIn MarkedUtf8 front text → IsTextIn Utf8 bytes part → IsTextIn MarkedUtf8 (front ++ bytes) (text ++ part)
marked_more front text bytes part a b = (IsUtf8-append text part a.0 b.0, ap₂ (λ x y. x ++ y) a.1 b.1)

none_more : (was is : Bool) (front bytes : List ℕ) → EndsPlain front → EndsPlain bytes → (was ≡ false → (more : List ℕ) → ¬ (IsUtf8 (front ++ more)))
    → (was ≡ false) ⊎ (¬ (IsUtf8 bytes)) → (more : List ℕ) → ¬ (IsUtf8 ((front ++ bytes) ++ more))
none_more was is front bytes one other none (inl e) more = λ utf8. none e (bytes ++ more) (subst IsUtf8 (append_assoc front bytes more) utf8)
none_more was is front bytes one other none (inr not) more = λ utf8.
    not (front_utf8 bytes more other (rest_utf8 front (bytes ++ more) one (subst IsUtf8 (append_assoc front bytes more) utf8)))

none_at_end : (was : Bool) (front bytes : List ℕ) → EndsPlain front → (was ≡ false → (more : List ℕ) → ¬ (IsUtf8 (front ++ more)))
    → (was ≡ false) ⊎ (¬ (IsUtf8 bytes)) → ¬ (IsUtf8 (front ++ bytes))
none_at_end was front bytes one none (inl e) = none e bytes
none_at_end was front bytes one none (inr not) = λ utf8. not (rest_utf8 front bytes one utf8)

pub no_byte : (encoding : Encoding) → IsFrontIn encoding true (mark_of encoding) []
no_byte Utf8 = (IsUtf8-nil, refl)
no_byte MarkedUtf8 = (IsUtf8-nil, refl)
no_byte Utf16Little = no_text Little
no_byte Utf16Big = no_text Big
no_byte Windows1252 = (omega arith, refl, λ e. absurd (cc))

pub decode_more : (encoding : Encoding) (was is : Bool) (front text bytes part : List ℕ) → IsFrontIn encoding was front text → EndsSo encoding bytes
    → Decodes encoding was is bytes part → IsFrontIn encoding is (front ++ bytes) (text ++ part)
decode_more Utf8 was is front text bytes part a ends b = utf8_more front text bytes part a b
decode_more MarkedUtf8 was is front text bytes part a ends b = marked_more front text bytes part a b
decode_more Utf16Little was is front text bytes part a ends b = utf16_more Little front text bytes part a b
decode_more Utf16Big was is front text bytes part a ends b = utf16_more Big front text bytes part a b
decode_more Windows1252 was is front text bytes part a ends b =
    (ends_more front bytes a.0 ends, windows_more front text bytes part a.1 b.0, λ e. none_more was is front bytes a.0 ends a.2 (b.1 e))

pub decode_end : (encoding : Encoding) (was is : Bool) (front text bytes part : List ℕ) → IsFrontIn encoding was front text
    → Decodes encoding was is bytes part → MayEnd encoding is → IsTextIn encoding (front ++ bytes) (text ++ part)
decode_end Utf8 was is front text bytes part a b may = utf8_more front text bytes part a b
decode_end MarkedUtf8 was is front text bytes part a b may = marked_more front text bytes part a b
decode_end Utf16Little was is front text bytes part a b may = utf16_more Little front text bytes part a b
decode_end Utf16Big was is front text bytes part a b may = utf16_more Big front text bytes part a b
decode_end Windows1252 was is front text bytes part a b may = (none_at_end was front bytes a.0 a.2 (b.1 may), windows_more front text bytes part a.1 b.0)
