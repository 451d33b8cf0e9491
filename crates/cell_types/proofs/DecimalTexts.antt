-- The text of a decimal reads as that decimal.
use Rattle.std.proofs.Common.{◌≡◌, ℕ, ℤ, pos, negsuc, suc, true, false, ◌+◌, ◌*◌, ◌/◌, ◌%◌, ◌^◌, ◌<◌, ◌≤◌, ◌==◌, ◌&&◌, Bool, cond, List, [], ◌∷◌, ◌++◌, length, take, drop, Ok, FitsSigned, w64, refl, sym, ap, ap₂, ◌∙◌, arith, nat_lt, length-append, append-nil, take_all, Err}
use Rattle.std.specs.Prelude.{codes}
use Rattle.std.specs.Char.{digit_value, is_ascii_digit}
use Rattle.std.specs.Fmt as fmt
use Rattle.std.specs.List.{after_first, before_first, list_all, position_or_len}
use Rattle.std.specs.Str.{all_ascii_digits}
use Rattle.std.specs.Str.Parse.{digits_value, digits_value_after, starts_with_minus, without_leading_sign}
use Rattle.std.proofs.Math.Seq.{take-append_seam, drop-append-add}
use Rattle.std.proofs.lemmas.Bool.{and_from, and_parts, eqb-true, lt-ltb}
use Rattle.std.proofs.lemmas.Bool.Decides.{nat_tests}
use Rattle.std.proofs.lemmas.Fmt.{decimal_nonempty, digits_decimal, digits_value-decimal}
use Rattle.std.proofs.lemmas.List.{drop_all}
use Rattle.std.proofs.lemmas.Str.{digit_value_digit}
use Rattle.cell_types.specs.declared.fault.CellFault.TheVariants.{OutOfRange}
use Rattle.cell_types.specs.Date.{four_digits, two_digits}
use Rattle.cell_types.specs.Decimal.{are_digits, decimal_of, decimal_text, fraction_part, fraction_text, is_decimal, is_in_millionths, is_point, is_zero, millionths, millionths_text, signed, six_digits, six_places, value_of_millionths, whole_part, without_last_zeros}
use Rattle.cell_types.specs.Value.{decimal}
use Rattle.cell_types.proofs.DecimalLemmas.{decimal-written, digits-append}
use Rattle.cell_types.proofs.DigitLaws.{after-append, digits_model}
use Rattle.cell_types.proofs.IntegerLemmas.{fits-true}

-- ---- zeros at the end

zeros-same : (ds pad : List ℕ) → list_all is_zero ds ≡ true → list_all is_zero pad ≡ true → length ds ≤ length pad → take (length ds) pad ≡ ds
zeros-same [] pad e z le = refl
zeros-same (d ∷ ds) [] e z le = absurd (omega (arith, le))
zeros-same (d ∷ ds) (p ∷ pad) e z le =
    let a = and_parts (is_zero d) (list_all is_zero ds) e in
    let b = and_parts (is_zero p) (list_all is_zero pad) z in
    ap₂ (λ x xs. x ∷ xs) (eqb-true p 48 b.0 ∙ sym (eqb-true d 48 a.0)) (zeros-same ds pad a.1 b.1 (omega (arith, le)))

-- filled with zeros again, they are what they were
trimmed-filled : (ds pad : List ℕ) → list_all is_zero pad ≡ true → length ds ≤ length pad → take (length ds) (without_last_zeros ds ++ pad) ≡ ds
trimmed-filled [] pad z le = refl
trimmed-filled (d ∷ ds) pad z le = by (trimmed-filled ds pad z (omega (arith, le))) (list_all is_zero (d ∷ ds)) refl
  where
    by : take (length ds) (without_last_zeros ds ++ pad) ≡ ds → (t : Bool) → list_all is_zero (d ∷ ds) ≡ t → take (suc (length ds)) (cond t [] (d ∷ without_last_zeros ds) ++ pad) ≡ d ∷ ds
    by same true e = zeros-same (d ∷ ds) pad e z le
    by same false e = ap (λ rest. d ∷ rest) same

trimmed-short : (ds : List ℕ) → length (without_last_zeros ds) ≤ length ds
trimmed-short [] = omega arith
trimmed-short (d ∷ ds) = by (trimmed-short ds) (list_all is_zero (d ∷ ds))
  where
    by : length (without_last_zeros ds) ≤ length ds → (t : Bool) → length (cond t [] (d ∷ without_last_zeros ds)) ≤ suc (length ds)
    by short true = omega arith
    by short false = omega (arith, short)

trimmed-digits : (ds : List ℕ) → all_ascii_digits ds ≡ true → all_ascii_digits (without_last_zeros ds) ≡ true
trimmed-digits [] all = refl
trimmed-digits (d ∷ ds) all =
    let p = and_parts (is_ascii_digit d) (all_ascii_digits ds) all in
    by p.0 (trimmed-digits ds p.1) (list_all is_zero (d ∷ ds))
  where
    by : is_ascii_digit d ≡ true → all_ascii_digits (without_last_zeros ds) ≡ true → (t : Bool) → all_ascii_digits (cond t [] (d ∷ without_last_zeros ds)) ≡ true
    by first rest true = refl
    by first rest false = and_from (is_ascii_digit d) (all_ascii_digits (without_last_zeros ds)) first rest

-- ---- six digits

a_digit : (d : ℕ) → d < 10 → is_ascii_digit (48 + d) ≡ true
a_digit d small = grind (arith, nat_tests)

two-digits : (n : ℕ) → n < 100 → all_ascii_digits (two_digits n) ≡ true
two-digits n small = rw (a_digit (n / 10) (omega arith), a_digit (n % 10) (omega arith)) refl

six-digits : (n : ℕ) → n < 1_000_000 → all_ascii_digits (six_digits n) ≡ true
six-digits n small =
    digits-append (two_digits (n / 10_000)) (four_digits (n % 10_000))
    ∙ ap₂ (λ p q. p && q) (two-digits (n / 10_000) (omega arith))
    (digits-append (two_digits (n % 10_000 / 100)) (two_digits (n % 10_000 % 100))
    ∙ ap₂ (λ p q. p && q) (two-digits (n % 10_000 / 100) (omega arith)) (two-digits (n % 10_000 % 100) (omega arith)))

value_of : (d : ℕ) → d < 10 → digit_value (48 + d) ≡ d
value_of d small = omega (arith, digit_value_digit (48 + d) (omega arith, omega arith))

-- what they write after another number
after-six : (q n : ℕ) → n < 1_000_000 → digits_value_after 10 q (six_digits n) ≡ q * 1_000_000 + n
after-six q n small =
    let a = value_of (n / 10_000 / 10) (omega arith) in
    let b = value_of (n / 10_000 % 10) (omega arith) in
    let c = value_of (n % 10_000 / 100 / 10) (omega arith) in
    let d = value_of (n % 10_000 / 100 % 10) (omega arith) in
    let e = value_of (n % 10_000 % 100 / 10) (omega arith) in
    let f = value_of (n % 10_000 % 100 % 10) (omega arith) in
    omega (arith, a, b, c, d, e, f)

-- ---- the parts of a text

not_point : (d : ℕ) → is_ascii_digit d ≡ true → is_point d ≡ false
not_point d digit = grind (arith, nat_tests)

-- digits stand before the first point, which has the rest after it
point_place : (ds rest : List ℕ) → all_ascii_digits ds ≡ true → position_or_len is_point (ds ++ 46 ∷ rest) ≡ length ds
point_place [] rest all = refl
point_place (d ∷ ds) rest all =
    let p = and_parts (is_ascii_digit d) (all_ascii_digits ds) all in
    rw (not_point d p.0, point_place ds rest p.1) (omega arith)

no_point_place : (ds : List ℕ) → all_ascii_digits ds ≡ true → position_or_len is_point ds ≡ length ds
no_point_place [] all = refl
no_point_place (d ∷ ds) all =
    let p = and_parts (is_ascii_digit d) (all_ascii_digits ds) all in
    rw (not_point d p.0, no_point_place ds p.1) (omega arith)

before_point : (ds rest : List ℕ) → all_ascii_digits ds ≡ true → before_first is_point (ds ++ 46 ∷ rest) ≡ ds
before_point ds rest all = ap (λ n. take n (ds ++ 46 ∷ rest)) (point_place ds rest all) ∙ take-append_seam ds (46 ∷ rest)

behind_point : (ds rest : List ℕ) → all_ascii_digits ds ≡ true → after_first is_point (ds ++ 46 ∷ rest) ≡ rest
behind_point ds rest all = ap (λ n. drop (n + 1) (ds ++ 46 ∷ rest)) (point_place ds rest all) ∙ drop-append-add ds (46 ∷ rest) 1

before_none : (ds : List ℕ) → all_ascii_digits ds ≡ true → before_first is_point ds ≡ ds
before_none ds all = take_all (position_or_len is_point ds) ds (omega (arith, no_point_place ds all))

behind_none : (ds : List ℕ) → all_ascii_digits ds ≡ true → after_first is_point ds ≡ []
behind_none ds all = drop_all (position_or_len is_point ds + 1) ds (omega (arith, no_point_place ds all))

-- a text that begins with a digit has no sign
first_digit : (ds rest : List ℕ) → all_ascii_digits ds ≡ true → 0 < length ds
    → (starts_with_minus (ds ++ rest) ≡ false) × (without_leading_sign (ds ++ rest) ≡ ds ++ rest)
first_digit [] rest all some = absurd (omega (arith, some))
first_digit (d ∷ ds) rest all some =
    let p = and_parts (is_ascii_digit d) (all_ascii_digits ds) all in
    let no_minus : (d == 45) ≡ false = no_sign d 45 (omega arith) p.0 in
    let no_plus : (d == 43) ≡ false = no_sign d 43 (omega arith) p.0 in
    (no_minus, rw (no_minus, no_plus) refl)
  where
    no_sign : (c s : ℕ) → s < 48 → is_ascii_digit c ≡ true → (c == s) ≡ false
    no_sign c s low digit = grind (arith, nat_tests)

-- ---- the text of millionths

-- what a text reads as by its parts
read_by_parts : (bytes whole fraction : List ℕ) (minus : Bool) (n : ℕ) → starts_with_minus bytes ≡ minus → whole_part bytes ≡ whole → fraction_part bytes ≡ fraction
    → all_ascii_digits whole ≡ true → 0 < length whole → all_ascii_digits fraction ≡ true → length fraction ≤ 6
    → digits_value_after 10 (digits_value 10 whole) (six_places fraction) ≡ n → FitsSigned w64 (signed minus n) → decimal_of bytes ≡ Ok (decimal (signed minus n))
read_by_parts bytes whole fraction minus n sign before behind digits some places short value fits =
    let long : nat_lt 0 (length (whole ++ fraction)) ≡ true = lt-ltb 0 (length (whole ++ fraction)) (simp length-append (omega (arith, some))) in
    let all : all_ascii_digits (whole ++ fraction) ≡ true = digits-append whole fraction ∙ ap₂ (λ p q. p && q) digits places in
    let form : is_decimal bytes ≡ true = ap₂ (λ w f. are_digits (w ++ f)) before behind ∙ and_from (nat_lt 0 (length (whole ++ fraction))) (all_ascii_digits (whole ++ fraction)) long all in
    let coarse : is_in_millionths bytes ≡ true = ap (λ f. list_all is_zero (drop 6 f)) behind ∙ ap (list_all is_zero) (drop_all 6 fraction short) in
    let number : millionths bytes ≡ signed minus n =
    ap₂ (λ w f. signed (starts_with_minus bytes) (digits_value 10 (w ++ six_places f))) before behind
    ∙ ap₂ signed sign (after-append 0 whole (six_places fraction) ∙ value) in
    decimal-written bytes form coarse ∙ ap value_of_millionths number
    ∙ ap (λ t. cond t (Ok (decimal (signed minus n))) (Err OutOfRange)) (fits-true (signed minus n) fits)

-- the fraction of millionths
abbrev trimmed : ℕ → List ℕ
trimmed m = without_last_zeros (six_digits m)

six_places-trimmed : (m : ℕ) → six_places (trimmed m) ≡ six_digits m
six_places-trimmed m = trimmed-filled (six_digits m) (codes "000000") refl (omega arith)

abbrev whole_of : ℕ → List ℕ
whole_of n = fmt.decimal (n / 1_000_000)

whole-digits : (n : ℕ) → n < 2 ^ 64 → all_ascii_digits (whole_of n) ≡ true
whole-digits n small = digits_decimal digits_model (n / 1_000_000) (omega arith)

whole-some : (n : ℕ) → n < 2 ^ 64 → 0 < length (whole_of n)
whole-some n small = decimal_nonempty (n / 1_000_000) (omega arith)

both-value : (n : ℕ) (fraction : List ℕ) → n < 2 ^ 64 → six_places fraction ≡ six_digits (n % 1_000_000)
    → digits_value_after 10 (digits_value 10 (whole_of n)) (six_places fraction) ≡ n
both-value n fraction small six =
    let value : digits_value 10 (whole_of n) ≡ n / 1_000_000 = digits_value-decimal digits_model (n / 1_000_000) (omega arith) in
    let sum : n / 1_000_000 * 1_000_000 + n % 1_000_000 ≡ n = omega arith in
    ap₂ (digits_value_after 10) value six ∙ after-six (n / 1_000_000) (n % 1_000_000) (omega arith) ∙ sum

-- after a minus or not, where the text has a fraction and where it has none
read_with : (bytes rest : List ℕ) (minus : Bool) (n : ℕ) → n < 2 ^ 64 → FitsSigned w64 (signed minus n) → starts_with_minus bytes ≡ minus → without_leading_sign bytes ≡ rest
    → rest ≡ millionths_text n → decimal_of bytes ≡ Ok (decimal (signed minus n))
read_with bytes rest minus n small fits sign unsigned is = by (n % 1_000_000 == 0) refl is
  where
    by : (t : Bool) → (n % 1_000_000 == 0) ≡ t → rest ≡ whole_of n ++ cond t [] (46 ∷ trimmed (n % 1_000_000)) → decimal_of bytes ≡ Ok (decimal (signed minus n))
    by true none_left e =
        let text = unsigned ∙ e ∙ append-nil (whole_of n) in
        let none : six_places [] ≡ six_digits (n % 1_000_000) = ap six_digits (sym (eqb-true (n % 1_000_000) 0 none_left)) in
        read_by_parts bytes (whole_of n) [] minus n sign (ap (before_first is_point) text ∙ before_none (whole_of n) (whole-digits n small))
        (ap (after_first is_point) text ∙ behind_none (whole_of n) (whole-digits n small))
        (whole-digits n small) (whole-some n small) refl (omega arith) (both-value n [] small none) fits
    by false other e =
        let text = unsigned ∙ e in
        let m = n % 1_000_000 in
        let short : length (trimmed m) ≤ 6 = trimmed-short (six_digits m) in
        read_by_parts bytes (whole_of n) (trimmed m) minus n sign (ap (before_first is_point) text ∙ before_point (whole_of n) (trimmed m) (whole-digits n small))
        (ap (after_first is_point) text ∙ behind_point (whole_of n) (trimmed m) (whole-digits n small))
        (whole-digits n small) (whole-some n small) (trimmed-digits (six_digits m) (six-digits m (omega arith))) short (both-value n (trimmed m) small (six_places-trimmed m)) fits

unsigned_text : (n : ℕ) → n < 2 ^ 64 → (starts_with_minus (millionths_text n) ≡ false) × (without_leading_sign (millionths_text n) ≡ millionths_text n)
unsigned_text n small =
    first_digit (fmt.decimal (n / 1_000_000)) (fraction_text (n % 1_000_000)) (digits_decimal digits_model (n / 1_000_000) (omega arith)) (decimal_nonempty (n / 1_000_000) (omega arith))

pub decimal_of-text : (z : ℤ) → FitsSigned w64 z → decimal_of (decimal_text z) ≡ Ok (decimal z)
unfolding decimal_text
decimal_of-text (pos n) fits =
    let small : n < 2 ^ 64 = omega (arith, fits.sfits) in
    let bare = unsigned_text n small in
    read_with (millionths_text n) (millionths_text n) false n small fits bare.0 bare.1 refl
decimal_of-text (negsuc n) fits =
    let small : suc n < 2 ^ 64 = omega (arith, fits.sfits) in
    read_with (45 ∷ millionths_text (suc n)) (millionths_text (suc n)) true (suc n) small fits refl refl refl
