-- Units of UTF-16, and others after them.
use Rattle.std.proofs.Common.{◌≡◌, ◌∙◌, ◌≤◌, ◌<◌, ℕ, Bool, true, false, cond, List, [], ◌∷◌, ◌++◌, map, drop, get_or, ap, ap₂, refl, sym, subst, append_assoc, arith}
use Rattle.std.specs.Prelude.{Option, Some, None, encode_utf8_all, is_some, not, ◌&&◌, ◌||◌, unwrap_or}
use Rattle.std.specs.Char.Utf16.{has_unpaired_surrogate, is_high_surrogate, is_low_surrogate, lone_unit_char, surrogate_pair_char, utf16_chars, utf16_lossy_chars}
use Rattle.std.specs.List.{list_any}
use Rattle.std.proofs.lemmas.List.{map-append}
use Rattle.std.proofs.lemmas.List.Folds.{list_any-append}
use Rattle.std.proofs.lemmas.Str.{encodes-append, utf16_chars_lone}
use Rattle.std.proofs.lemmas.Bool.{le-leb, lt-ltb}
use Rattle.text_encodings.specs.declared.utf16.ByteOrder.{ByteOrder}
use Rattle.text_encodings.specs.declared.utf16.ByteOrder.TheVariants.{Little, Big}
use Rattle.text_encodings.specs.Encodings.{AreUnits, no_unit, one_unit, IsUtf16, utf16_mark}

are_more : (order : ByteOrder) (xs us ys vs : List ℕ) → AreUnits order xs us → AreUnits order ys vs → AreUnits order (xs ++ ys) (us ++ vs)
are_more order xs us ys vs no_unit more = more
are_more order xs us ys vs (one_unit first second bytes units are) more = one_unit first second (bytes ++ ys) (units ++ vs) (are_more order bytes units ys vs are more)

abbrev lacks : Option ℕ → Bool
lacks o = not (is_some o)

lone : (u v : ℕ) (vs : List ℕ) → list_any lacks (lone_unit_char u ∷ []) ≡ false → utf16_chars (u ∷ v ∷ vs) ≡ lone_unit_char u ∷ utf16_chars (v ∷ vs)
lone u v vs e = utf16_chars_lone u (v ∷ vs) (λ pair. none (surrogate pair.0 (omega (arith, pair.1))))
  where
    surrogate : 0xD800 ≤ u → u < 0xE000 → lone_unit_char u ≡ None
    surrogate low high = rw (le-leb 0xD800 u low, lt-ltb u 0xE000 high)

    none : lone_unit_char u ≡ None → ⊥
    none is = let both : list_any lacks (None ∷ []) ≡ false = subst (λ o. list_any lacks (o ∷ []) ≡ false) is e in absurd (cc)

pub chars_more : (us vs : List ℕ) → has_unpaired_surrogate us ≡ false → utf16_chars (us ++ vs) ≡ utf16_chars us ++ utf16_chars vs
unfolding utf16_chars
chars_more [] vs e = refl
chars_more (u ∷ []) [] e = refl
chars_more (u ∷ []) (v ∷ vs) e = lone u v vs e
chars_more (u ∷ v ∷ us) vs e = on (is_high_surrogate u && is_low_surrogate v) refl (λ k. chars_more us vs k) (λ k. chars_more (v ∷ us) vs k)
  where
    pair : List (Option ℕ) → List (Option ℕ)
    pair rest = Some (surrogate_pair_char u v) ∷ rest

    alone : List (Option ℕ) → List (Option ℕ)
    alone rest = lone_unit_char u ∷ rest

    both : Bool → List (Option ℕ)
    both t = cond t (pair (utf16_chars us)) (alone (utf16_chars (v ∷ us)))

    rest_of : (x : Option ℕ) (xs : List (Option ℕ)) (b : Bool) → lacks x ≡ b → list_any lacks (x ∷ xs) ≡ false → list_any lacks xs ≡ false
    rest_of x xs true is e = absurd (cc)
    rest_of x xs false is e = cc

    on : (t : Bool) → (is_high_surrogate u && is_low_surrogate v) ≡ t
        → (has_unpaired_surrogate us ≡ false → utf16_chars (us ++ vs) ≡ utf16_chars us ++ utf16_chars vs)
        → (has_unpaired_surrogate (v ∷ us) ≡ false → utf16_chars ((v ∷ us) ++ vs) ≡ utf16_chars (v ∷ us) ++ utf16_chars vs)
        → utf16_chars ((u ∷ v ∷ us) ++ vs) ≡ utf16_chars (u ∷ v ∷ us) ++ utf16_chars vs
    on true is after next =
        let e : list_any lacks (pair (utf16_chars us)) ≡ false = subst (λ t. list_any lacks (both t) ≡ false) is e in
        ap (λ t. cond t (pair (utf16_chars (us ++ vs))) (alone (utf16_chars (v ∷ (us ++ vs))))) is
        ∙ (ap pair (after (rest_of (Some (surrogate_pair_char u v)) (utf16_chars us) false refl e)) ∙ sym (ap (λ t. both t ++ utf16_chars vs) is))
    on false is after next =
        let e : list_any lacks (alone (utf16_chars (v ∷ us))) ≡ false = subst (λ t. list_any lacks (both t) ≡ false) is e in
        ap (λ t. cond t (pair (utf16_chars (us ++ vs))) (alone (utf16_chars (v ∷ (us ++ vs))))) is
        ∙ (ap alone (next (rest_of (lone_unit_char u) (utf16_chars (v ∷ us)) (lacks (lone_unit_char u)) refl e)) ∙ sym (ap (λ t. both t ++ utf16_chars vs) is))

pub text_more : {X : Type 0} (f : X → ℕ) (xs ys : List X) → encode_utf8_all (map f xs) ++ encode_utf8_all (map f ys) ≡ encode_utf8_all (map f (xs ++ ys))
text_more f xs ys = sym (ap encode_utf8_all (map-append f xs ys) ∙ encodes-append (map f xs) (map f ys))

mark_same : (order : ByteOrder) (xs ys : List ℕ) → utf16_mark order ++ xs ≡ utf16_mark order ++ ys → xs ≡ ys
mark_same Little xs ys e = ap (drop 2) e
mark_same Big xs ys e = ap (drop 2) e

abbrev character : Option ℕ → ℕ
character o = unwrap_or o 0xFFFD

pub utf16_more : (order : ByteOrder) (front text bytes part : List ℕ) → IsUtf16 order front text → IsUtf16 order (utf16_mark order ++ bytes) part
    → IsUtf16 order (front ++ bytes) (text ++ part)
utf16_more order front text bytes part a b = record {
  after = a.after ++ bytes;
  units = a.units ++ b.units;
  marked = ap (λ l. l ++ bytes) a.marked ∙ append_assoc (utf16_mark order) a.after bytes;
  are = are_more order a.after a.units bytes b.units a.are (subst (λ l. AreUnits order l b.units) (sym (mark_same order bytes b.after b.marked)) b.are);
  paired = ap (list_any lacks) chars ∙ (list_any-append lacks (utf16_chars a.units) (utf16_chars b.units) ∙ none a.paired b.paired);
  text_is = ap₂ (λ x y. x ++ y) a.text_is b.text_is ∙ (text_more character (utf16_chars a.units) (utf16_chars b.units) ∙ ap (λ l. encode_utf8_all (map character l)) (sym chars));
}
  where
    chars : utf16_chars (a.units ++ b.units) ≡ utf16_chars a.units ++ utf16_chars b.units
    chars = chars_more a.units b.units a.paired

    none : {p q : Bool} → p ≡ false → q ≡ false → (p || q) ≡ false
    none {p} {q} e f = ap₂ (λ (p q : Bool). p || q) e f

pub no_text : (order : ByteOrder) → IsUtf16 order (utf16_mark order) []
unfolding utf16_chars
no_text Little = record { after = []; units = []; marked = refl; are = no_unit; paired = refl; text_is = refl }
no_text Big = record { after = []; units = []; marked = refl; are = no_unit; paired = refl; text_is = refl }
