-- Decimals as millionths of 64 bits.
use Rattle.std.proofs.Common.{◌≡◌, ℕ, ℤ, true, false, ◌+◌, ◌-◌, ◌*◌, ◌^◌, ◌<◌, ◌≤◌, Bool, cond, List, [], ◌∷◌, ◌++◌, length, get_or, take, drop, Ok, Err, Result, FitsSigned, w64, refl, sym, ap, ap₂, subst, ◌∙◌, ◌==◌, ◌&&◌, nat_lt, length-append, arith, add-one, drop-cons, suc, zero, min}
use Rattle.std.specs.Prelude.{codes}
use Rattle.std.specs.Char.{digit_value, is_ascii_digit}
use Rattle.std.specs.List.{list_all}
use Rattle.std.specs.Str.{all_ascii_digits}
use Rattle.std.specs.Int.{IsInRange}
use Rattle.std.specs.Str.Parse.{AllDigits, digits_value, digits_value_after, starts_with_minus}
use Rattle.std.proofs.Math.Seq.{take-append-add}
use Rattle.std.proofs.lemmas.Bool.{and_parts, cond_both, eqb-false, false_from_ne_true, lt-ltb, ltb-true}
use Rattle.std.proofs.lemmas.List.Folds.{list_all-append}
use Rattle.std.proofs.lemmas.List.{append_cancel_left, take-append-drop, take_min}
use Rattle.std.proofs.lemmas.Str.{digit_value_digit}
use Rattle.std.proofs.lemmas.Str.Parse.{digit_from_value}
use Rattle.cell_types.specs.declared.fault.CellFault.{CellFault}
use Rattle.cell_types.specs.declared.fault.CellFault.TheVariants.{NotDecimal, OutOfRange, TooFine}
use Rattle.cell_types.specs.Decimal.{are_digits, decimal_of, fraction_part, is_decimal, is_in_millionths, is_zero, millionths, signed, six_places, value_of_millionths, whole_part}
use Rattle.cell_types.specs.Integer.{fits_64_bits}
use Rattle.cell_types.specs.Value.{CellValue, decimal}
use Rattle.cell_types.proofs.DigitLaws.{after-append, digits_model, list_all-digits}
use Rattle.cell_types.proofs.IntegerLemmas.{true-fits}

pub decimal_of-only : (bytes : List ℕ) (v : CellValue) → decimal_of bytes ≡ Ok v → (z : ℤ) × FitsSigned w64 z × (v ≡ decimal z)
unfolding decimal_of
decimal_of-only bytes v =
    let n = millionths bytes in
    let in_range = cond (fits_64_bits n) (Ok (decimal n)) (Err OutOfRange) in
    let Only : Result CellValue CellFault → Type 0 = λ r. r ≡ Ok v → (z : ℤ) × FitsSigned w64 z × (v ≡ decimal z) in
    cond_both (is_decimal bytes) (cond (is_in_millionths bytes) in_range (Err TooFine)) (Err NotDecimal) Only
    (λ _. cond_both (is_in_millionths bytes) in_range (Err TooFine) Only
    (λ _. cond_both (fits_64_bits n) (Ok (decimal n)) (Err OutOfRange) Only (λ fits e. (n, true-fits n fits, cc)) (λ _ e. cc))
    (λ _ e. cc))
    (λ _ e. cc)

-- ---- digits after others

after-le : (n : ℕ) (ds : List ℕ) → n ≤ digits_value_after 10 n ds
after-le n [] = omega arith
after-le n (d ∷ ds) = omega (arith, after-le (n * 10 + digit_value d) ds)

-- the digits from a place on, after a number, write what all of them do after another
abbrev pub WritesAs : ℕ → List ℕ → ℕ → ℕ → Type 0
WritesAs start ds i n = AllDigits 10 (drop i ds) × (digits_value_after 10 n (drop i ds) ≡ digits_value_after 10 start ds)

-- one digit further
pub digit_next : (start : ℕ) (ds : List ℕ) (i n : ℕ) → i < length ds → WritesAs start ds i n
    → IsInRange 48 57 (get_or ds i 0) × WritesAs start ds (i + 1) (n * 10 + (get_or ds i 0 - 48))
digit_next start ds i n lt h =
    let next : drop i ds ≡ get_or ds i 0 ∷ drop (i + 1) ds = rw add-one (drop-cons ds i 0 lt) in
    let all = subst (AllDigits 10) next h.0 in
    let in_range = digit_from_value (get_or ds i 0) all.0 in
    let value : get_or ds i 0 - 48 ≡ digit_value (get_or ds i 0) = omega (arith, digit_value_digit (get_or ds i 0) in_range) in
    (in_range, (all.1, ap (λ d. digits_value_after 10 (n * 10 + d) (drop (i + 1) ds)) value ∙ ap (digits_value_after 10 n) (sym next) ∙ h.1))

-- no number of 64 bits is left after one that is none
pub no_room : (start : ℕ) (ds : List ℕ) (i n m : ℕ) → i < length ds → WritesAs start ds i n → m ≤ n * 10 + (get_or ds i 0 - 48) → ¬ (m < 2 ^ 64)
    → ¬ (digits_value_after 10 start ds < 2 ^ 64)
no_room start ds i n m lt h le out fits =
    let next = digit_next start ds i n lt h in
    out (omega (arith, after-le (n * 10 + (get_or ds i 0 - 48)) (drop (i + 1) ds), next.1.1))

-- ---- six decimal places

-- at most six places are filled with zeros
pub six_places-few : (places : List ℕ) → length places ≤ 6 → six_places places ≡ places ++ take (6 - length places) (codes "000000")
six_places-few places short =
    let all : 6 ≡ length places + (6 - length places) = omega arith in
    ap (λ n. take n (places ++ codes "000000")) all ∙ take-append-add places (codes "000000") (6 - length places)

-- and of more the first six count
take-take-append : (n : ℕ) (xs ys : List ℕ) → take n (take n xs ++ ys) ≡ take n (xs ++ ys)
take-take-append zero xs ys = refl
take-take-append (suc n) [] ys = refl
take-take-append (suc n) (x ∷ xs) ys = ap (λ rest. x ∷ rest) (take-take-append n xs ys)

pub six_places-take : (fraction : List ℕ) (n : ℕ) → n ≡ min 6 (length fraction) → six_places (take n fraction) ≡ six_places fraction
six_places-take fraction n is =
    ap (λ k. six_places (take k fraction)) is ∙ ap six_places (take_min 6 fraction) ∙ take-take-append 6 fraction (codes "000000")

-- what the digits before the point and few after it write, part by part
pub millionths-parts : (whole places : List ℕ) → length places ≤ 6
    → digits_value 10 (whole ++ six_places places) ≡ digits_value_after 10 (digits_value_after 10 (digits_value 10 whole) places) (take (6 - length places) (codes "000000"))
millionths-parts whole places short =
    ap (λ ds. digits_value 10 (whole ++ ds)) (six_places-few places short)
    ∙ after-append 0 whole (places ++ take (6 - length places) (codes "000000"))
    ∙ after-append (digits_value 10 whole) places (take (6 - length places) (codes "000000"))

-- a part that is no number of 64 bits leaves none
pub grows : (n : ℕ) (ds : List ℕ) → ¬ (n < 2 ^ 64) → ¬ (digits_value_after 10 n ds < 2 ^ 64)
grows n ds out fits = out (omega (arith, after-le n ds))

-- ---- the definition

pub decimal-not : (bytes : List ℕ) → is_decimal bytes ≡ false → decimal_of bytes ≡ Err NotDecimal
unfolding decimal_of
decimal-not bytes form = rw form refl

pub decimal-too_fine : (bytes : List ℕ) → is_decimal bytes ≡ true → is_in_millionths bytes ≡ false → decimal_of bytes ≡ Err TooFine
unfolding decimal_of
decimal-too_fine bytes form fine = rw (form, fine) refl

pub decimal-written : (bytes : List ℕ) → is_decimal bytes ≡ true → is_in_millionths bytes ≡ true → decimal_of bytes ≡ value_of_millionths (millionths bytes)
unfolding decimal_of
decimal-written bytes form coarse = rw (form, coarse) refl

-- a number of more than 64 bits does not fit with a sign either
pub out_of_range : (minus : Bool) (n : ℕ) → ¬ (n < 2 ^ 64) → value_of_millionths (signed minus n) ≡ Err OutOfRange
out_of_range true zero out = absurd (out (omega arith))
out_of_range true (suc n) out = let no : nat_lt n (2 ^ 63) ≡ false = false_from_ne_true _ (λ t. absurd (out (omega (arith, ltb-true n (2 ^ 63) t)))) in rw no refl
out_of_range false n out = let no : nat_lt n (2 ^ 63) ≡ false = false_from_ne_true _ (λ t. absurd (out (omega (arith, ltb-true n (2 ^ 63) t)))) in rw no refl

-- the digits of both parts
pub digits-append : (whole fraction : List ℕ) → all_ascii_digits (whole ++ fraction) ≡ (all_ascii_digits whole && all_ascii_digits fraction)
digits-append whole fraction =
    sym (list_all-digits (whole ++ fraction)) ∙ list_all-append is_ascii_digit whole fraction ∙ ap₂ (λ p q. p && q) (list_all-digits whole) (list_all-digits fraction)

pub both_parts : (whole fraction : List ℕ) → are_digits (whole ++ fraction) ≡ true → AllDigits 10 whole × AllDigits 10 fraction
both_parts whole fraction h =
    let all = (and_parts (nat_lt 0 (length (whole ++ fraction))) (all_ascii_digits (whole ++ fraction)) h).1 in
    let both = and_parts (all_ascii_digits whole) (all_ascii_digits fraction) (sym (digits-append whole fraction) ∙ all) in
    (digits_model.to whole both.0, digits_model.to fraction both.1)

-- digits before a point, and after it
pub are_digits-some : (whole fraction : List ℕ) → (length whole == 0) ≡ false → are_digits (whole ++ fraction) ≡ (list_all is_ascii_digit whole && list_all is_ascii_digit fraction)
are_digits-some whole fraction some =
    let long : nat_lt 0 (length (whole ++ fraction)) ≡ true = lt-ltb 0 (length (whole ++ fraction)) (simp length-append (omega (arith, eqb-false (length whole) 0 some))) in
    rw long (digits-append whole fraction ∙ sym (ap₂ (λ p q. p && q) (list_all-digits whole) (list_all-digits fraction)))

-- ---- a text by its parts

abbrev pub ArePartsOf : List ℕ → List ℕ → List ℕ → Type 0
ArePartsOf bytes whole fraction = (whole ≡ whole_part bytes) × (fraction ≡ fraction_part bytes)

form_is : (bytes whole fraction : List ℕ) (b : Bool) → ArePartsOf bytes whole fraction → are_digits (whole ++ fraction) ≡ b → is_decimal bytes ≡ b
form_is bytes whole fraction b parts e = ap₂ (λ w f. are_digits (w ++ f)) (sym parts.0) (sym parts.1) ∙ e

-- what stands after the sixth place, or after all
drop_places : (n : ℕ) (fraction : List ℕ) → n ≡ min 6 (length fraction) → drop n fraction ≡ drop 6 fraction
drop_places n fraction is =
    let same : take n fraction ≡ take 6 fraction = ap (λ k. take k fraction) is ∙ take_min 6 fraction in
    append_cancel_left (take n fraction) (drop n fraction) (drop 6 fraction)
    (take-append-drop n fraction ∙ sym (take-append-drop 6 fraction) ∙ ap (λ xs. xs ++ drop 6 fraction) (sym same))

fine_is : (bytes fraction finer : List ℕ) (n : ℕ) (b : Bool) → fraction ≡ fraction_part bytes → n ≡ min 6 (length fraction) → finer ≡ drop n fraction
    → list_all is_zero finer ≡ b → is_in_millionths bytes ≡ b
fine_is bytes fraction finer n b is count rest e =
    ap (λ f. list_all is_zero (drop 6 f)) (sym is) ∙ ap (list_all is_zero) (sym (rest ∙ drop_places n fraction count)) ∙ e

millionths_is : (bytes whole fraction places : List ℕ) (n : ℕ) → ArePartsOf bytes whole fraction → n ≡ min 6 (length fraction) → places ≡ take n fraction
    → millionths bytes ≡ signed (starts_with_minus bytes) (digits_value 10 (whole ++ six_places places))
millionths_is bytes whole fraction places n parts count first =
    ap₂ (λ w f. signed (starts_with_minus bytes) (digits_value 10 (w ++ six_places f))) (sym parts.0) (sym parts.1)
    ∙ ap (λ six. signed (starts_with_minus bytes) (digits_value 10 (whole ++ six))) (sym (ap six_places first ∙ six_places-take fraction n count))

pub read-not : (bytes whole fraction : List ℕ) → ArePartsOf bytes whole fraction → are_digits (whole ++ fraction) ≡ false → Err NotDecimal ≡ decimal_of bytes
read-not bytes whole fraction parts form = sym (decimal-not bytes (form_is bytes whole fraction false parts form))

pub read-too_fine : (bytes whole fraction finer : List ℕ) (n : ℕ) → ArePartsOf bytes whole fraction → are_digits (whole ++ fraction) ≡ true → n ≡ min 6 (length fraction)
    → finer ≡ drop n fraction → list_all is_zero finer ≡ false → Err TooFine ≡ decimal_of bytes
read-too_fine bytes whole fraction finer n parts form count rest fine =
    sym (decimal-too_fine bytes (form_is bytes whole fraction true parts form) (fine_is bytes fraction finer n false parts.1 count rest fine))

pub read-written : (bytes whole fraction places finer : List ℕ) (n : ℕ) → ArePartsOf bytes whole fraction → are_digits (whole ++ fraction) ≡ true
    → n ≡ min 6 (length fraction) → places ≡ take n fraction → finer ≡ drop n fraction → list_all is_zero finer ≡ true
    → value_of_millionths (signed (starts_with_minus bytes) (digits_value 10 (whole ++ six_places places))) ≡ decimal_of bytes
read-written bytes whole fraction places finer n parts form count first rest fine =
    ap value_of_millionths (sym (millionths_is bytes whole fraction places n parts count first))
    ∙ sym (decimal-written bytes (form_is bytes whole fraction true parts form) (fine_is bytes fraction finer n true parts.1 count rest fine))
