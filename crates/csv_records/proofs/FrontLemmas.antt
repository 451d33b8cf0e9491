-- The bytes of a field that are a piece of its text.
use Rattle.std.proofs.Common.{◌≡◌, ◌∙◌, ℕ, suc, ◌+◌, Bool, true, false, List, [], ◌∷◌, ◌++◌, map, take, drop, ap, refl, sym, subst, arith, ◌==◌, eqb-true, take-append-drop}
use Rattle.std.specs.Prelude.{IsTrue, if◌then◌else◌, not}
use Rattle.std.specs.List.{AllByRecursion, position_or_len}
use Rattle.std.proofs.lemmas.List.{map-append}
use Rattle.csv_grammar.specs.Bytes.{double_quote}
use Rattle.csv_grammar.specs.Records.{doubled, is_plain}
use Rattle.csv_records.specs.Exchange.{IsPlainFront, exchanged}
use Rattle.csv_records.specs.Written.{is_special}
use Rattle.csv_records.proofs.WrittenLemmas.{not_special}

-- a byte that a field without double quotes does not have, and a double quote
abbrev pub ends_plain : ℕ → ℕ → Bool
ends_plain separator byte = is_special (exchanged separator byte)

abbrev pub is_quote : ℕ → ℕ → Bool
is_quote separator byte = exchanged separator byte == double_quote

abbrev pub AllPlain : List ℕ → Type 0
AllPlain bytes = AllByRecursion (λ byte. IsTrue (is_plain byte)) bytes

plain_until : (separator : ℕ) (text : List ℕ) → AllPlain (map (exchanged separator) (take (position_or_len (ends_plain separator) text) text))
plain_until separator [] = tt
plain_until separator (byte ∷ text) = by (plain_until separator text) (ends_plain separator byte) refl
  where
    front : ℕ → List ℕ
    front count = map (exchanged separator) (take count (byte ∷ text))

    by : AllPlain (map (exchanged separator) (take (position_or_len (ends_plain separator) text) text)) → (ends : Bool) → ends_plain separator byte ≡ ends
        → AllPlain (front (if not ends then 1 + position_or_len (ends_plain separator) text else 0))
    by more true e = tt
    by more false e =
        let next : suc (position_or_len (ends_plain separator) text) ≡ 1 + position_or_len (ends_plain separator) text = omega arith in
        subst (λ (n : ℕ). AllPlain (front n)) next (not_special (ends_plain separator byte) e, more)

cut : (separator : ℕ) (text : List ℕ) (n : ℕ) → map (exchanged separator) text ≡ map (exchanged separator) (take n text) ++ map (exchanged separator) (drop n text)
cut separator text n = ap (map (exchanged separator)) (sym (take-append-drop n text)) ∙ map-append (exchanged separator) (take n text) (drop n text)

pub plain_front : (separator : ℕ) (text cell rest : List ℕ) (n : ℕ) → n ≡ position_or_len (ends_plain separator) text → cell ≡ take n text → rest ≡ drop n text
    → IsPlainFront separator (map (exchanged separator) text) cell (map (exchanged separator) rest)
plain_front separator text cell rest n place front back =
    let E : List ℕ → List ℕ = λ l. map (exchanged separator) l in
    record {
      printed = cut separator text n ∙ ap (λ (l : List ℕ). E l ++ E (drop n text)) (sym front) ∙ ap (λ (l : List ℕ). E cell ++ E l) (sym back);
      plain = subst (λ (l : List ℕ). AllPlain (E l)) (ap (λ (k : ℕ). take k text) (sym place) ∙ sym front) (plain_until separator text);
    }

undoubled : (separator : ℕ) (text : List ℕ) → let front : List ℕ = map (exchanged separator) (take (position_or_len (is_quote separator) text) text) in doubled front ≡ front
undoubled separator [] = refl
undoubled separator (byte ∷ text) = by (undoubled separator text) (is_quote separator byte) refl
  where
    front : ℕ → List ℕ
    front count = map (exchanged separator) (take count (byte ∷ text))

    rest : List ℕ
    rest = map (exchanged separator) (take (position_or_len (is_quote separator) text) text)

    by : doubled rest ≡ rest → (quote : Bool) → is_quote separator byte ≡ quote
        → doubled (front (if not quote then 1 + position_or_len (is_quote separator) text else 0)) ≡ front (if not quote then 1 + position_or_len (is_quote separator) text else 0)
    by more true e = refl
    by more false e =
        let next : suc (position_or_len (is_quote separator) text) ≡ 1 + position_or_len (is_quote separator) text = omega arith in
        subst (λ (n : ℕ). doubled (front n) ≡ front n) next
        (ap (λ (t : Bool). if t then double_quote ∷ double_quote ∷ doubled rest else exchanged separator byte ∷ doubled rest) e
        ∙ ap (λ (l : List ℕ). exchanged separator byte ∷ l) more)

closed_by : (separator : ℕ) (text : List ℕ) (byte : ℕ) (rest : List ℕ) → drop (position_or_len (is_quote separator) text) text ≡ byte ∷ rest → exchanged separator byte ≡ double_quote
closed_by separator [] byte rest e = absurd (cc)
closed_by separator (first ∷ text) byte rest e = by (closed_by separator text byte rest) (is_quote separator first) refl e
  where
    by : (drop (position_or_len (is_quote separator) text) text ≡ byte ∷ rest → exchanged separator byte ≡ double_quote) → (quote : Bool)
        → is_quote separator first ≡ quote → drop (if not quote then 1 + position_or_len (is_quote separator) text else 0) (first ∷ text) ≡ byte ∷ rest
        → exchanged separator byte ≡ double_quote
    by more true q f =
        let same : first ≡ byte = cc in
        subst (λ (b : ℕ). exchanged separator b ≡ double_quote) same (eqb-true (exchanged separator first) double_quote q)
    by more false q f =
        let next : 1 + position_or_len (is_quote separator) text ≡ suc (position_or_len (is_quote separator) text) = omega arith in
        more (subst (λ (n : ℕ). drop n (first ∷ text) ≡ byte ∷ rest) next f)

pub quoted_front : (separator : ℕ) (text cell closing rest : List ℕ) (n byte : ℕ) → n ≡ position_or_len (is_quote separator) text → cell ≡ take n text → closing ≡ drop n text
    → closing ≡ byte ∷ rest → map (exchanged separator) text ≡ doubled (map (exchanged separator) cell) ++ double_quote ∷ map (exchanged separator) rest
quoted_front separator text cell closing rest n byte place front back e =
    let E : List ℕ → List ℕ = λ l. map (exchanged separator) l in
    let whole : cell ≡ take (position_or_len (is_quote separator) text) text = front ∙ ap (λ (k : ℕ). take k text) place in
    let same : doubled (E cell) ≡ E cell = subst (λ (l : List ℕ). doubled (E l) ≡ E l) (sym whole) (undoubled separator text) in
    let left : drop n text ≡ byte ∷ rest = sym back ∙ e in
    let quote : exchanged separator byte ≡ double_quote =
    closed_by separator text byte rest (ap (λ (k : ℕ). drop k text) (sym place) ∙ left) in
    cut separator text n ∙ ap (λ (l : List ℕ). E l ++ E (drop n text)) (sym front) ∙ ap (λ (l : List ℕ). E cell ++ E l) left
    ∙ ap (λ (b : ℕ). E cell ++ b ∷ E rest) quote ∙ ap (λ (l : List ℕ). l ++ double_quote ∷ E rest) (sym same)
