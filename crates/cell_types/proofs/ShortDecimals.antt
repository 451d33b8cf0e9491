-- Decimals of few digits on both sides of their point.
use Rattle.std.proofs.Common.{◌≡◌, ℕ, zero, suc, ◌+◌, ◌-◌, ◌*◌, ◌^◌, ◌<◌, ◌≤◌, Bool, true, false, List, [], ◌∷◌, ◌++◌, length, take, drop, min, Ok, refl, sym, ap, ◌∙◌, arith}
use Rattle.std.specs.Prelude.{codes}
use Rattle.std.specs.Char.{is_ascii_digit}
use Rattle.std.specs.List.{list_all}
use Rattle.std.specs.Str.Parse.{AllDigits, IsNumeral, digits_value, digits_value_after, starts_with_minus}
use Rattle.std.proofs.lemmas.Bool.{and_from, lt-ltb, ne_eqb}
use Rattle.std.proofs.lemmas.List.{drop_all, take_all}
use Rattle.std.proofs.lemmas.Str.Parse.{digits_value_short}
use Rattle.cell_types.specs.Decimal.{are_digits, decimal_of, signed, six_places, value_of_millionths}
use Rattle.cell_types.specs.Integer.{fits_64_bits}
use Rattle.cell_types.specs.Value.{decimal}
use Rattle.cell_types.proofs.DecimalLemmas.{ArePartsOf, are_digits-some, millionths-parts, read-written}
use Rattle.cell_types.proofs.DigitLaws.{digits_model, list_all-digits}
use Rattle.cell_types.proofs.ShortIntegers.{model}

all-digits : (ds : List ℕ) → AllDigits 10 ds → list_all is_ascii_digit ds ≡ true
all-digits ds all = list_all-digits ds ∙ digits_model.from ds all

pub short-parts : (whole fraction : List ℕ) → IsNumeral 10 whole → IsNumeral 10 fraction → are_digits (whole ++ fraction) ≡ true
short-parts whole fraction w f =
    are_digits-some whole fraction (ne_eqb (length whole) 0 (λ e. absurd (omega (arith, e, w.0))))
    ∙ and_from (list_all is_ascii_digit whole) (list_all is_ascii_digit fraction) (all-digits whole w.1) (all-digits fraction f.1)

pub value-short : (ds : List ℕ) (k : ℕ) → IsNumeral 10 ds → length ds ≤ k → digits_value 10 ds < 10 ^ k
value-short ds k numeral short = digits_value_short model ds k numeral.1 short

-- up to six places, and zeros after them
abbrev zeros : List ℕ → List ℕ
zeros places = take (6 - length places) (codes "000000")

filled-after : (n : ℕ) (places : List ℕ) → 0 < length places → length places ≤ 6
    → digits_value_after 10 (digits_value_after 10 n places) (zeros places) ≡ n * 1_000_000 + digits_value 10 places * 10 ^ (6 - length places)
filled-after n [] some few = absurd (omega arith)
filled-after n (a ∷ []) some few = omega arith
filled-after n (a ∷ b ∷ []) some few = omega arith
filled-after n (a ∷ b ∷ c ∷ []) some few = omega arith
filled-after n (a ∷ b ∷ c ∷ d ∷ []) some few = omega arith
filled-after n (a ∷ b ∷ c ∷ d ∷ e ∷ []) some few = omega arith
filled-after n (a ∷ b ∷ c ∷ d ∷ e ∷ f ∷ []) some few = omega arith
filled-after n (a ∷ b ∷ c ∷ d ∷ e ∷ f ∷ g ∷ rest) some few = absurd (omega arith)

pub short-value_is : (whole fraction : List ℕ) → 0 < length fraction → length fraction ≤ 6
    → digits_value 10 whole * 1_000_000 + digits_value 10 fraction * 10 ^ (6 - length fraction) ≡ digits_value 10 (whole ++ six_places fraction)
short-value_is whole fraction some few = sym (filled-after (digits_value 10 whole) fraction some few) ∙ sym (millionths-parts whole fraction few)

fits : (minus : Bool) (n : ℕ) → n < 10 ^ 18 → fits_64_bits (signed minus n) ≡ true
fits true zero small = refl
fits true (suc n) small = lt-ltb n (2 ^ 63) (omega (arith, small))
fits false n small = lt-ltb n (2 ^ 63) (omega (arith, small))

-- what they write is the value of the text
pub short-decimal : (bytes whole fraction : List ℕ) (n : ℕ) → ArePartsOf bytes whole fraction → are_digits (whole ++ fraction) ≡ true → length fraction ≤ 6
    → n < 10 ^ 18 → n ≡ digits_value 10 (whole ++ six_places fraction) → Ok (decimal (signed (starts_with_minus bytes) n)) ≡ decimal_of bytes
short-decimal bytes whole fraction n parts form few small is =
    let minus = starts_with_minus bytes in
    let count : length fraction ≡ min 6 (length fraction) = omega (arith, few) in
    let none : drop (length fraction) fraction ≡ [] = drop_all (length fraction) fraction (omega arith) in
    let written = read-written bytes whole fraction fraction [] (length fraction) parts form count (sym (take_all (length fraction) fraction (omega arith))) (sym none) refl in
    let in_range : value_of_millionths (signed minus n) ≡ Ok (decimal (signed minus n)) = rw (fits minus n small) refl in
    sym in_range ∙ ap (λ m. value_of_millionths (signed minus m)) is ∙ written
