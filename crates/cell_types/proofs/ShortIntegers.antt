-- Integers of few digits, read digit by digit.
use Rattle.std.proofs.Common.{◌≡◌, ℕ, zero, suc, ◌+◌, ◌*◌, ◌^◌, ◌<◌, ◌≤◌, true, false, List, [], ◌∷◌, Ok, FitsSigned, w64, arith, length, get_or, take, drop, refl, ap, ◌∙◌}
use Rattle.std.specs.Prelude.{pos, neg_ℤ, ◌==◌, if◌then◌else◌, slice_index}
use Rattle.std.specs.Str.Parse.{AllDigits, IsNumeral, digits_value, signed_digits_value, starts_with_minus, without_leading_plus, without_leading_sign}
use Rattle.std.proofs.lemmas.List.{length-take}
use Rattle.std.proofs.lemmas.Bool.{eqb-true, false_from_ne_true, ne_eqb, cond-false, cond_both}
use Rattle.std.proofs.lemmas.Bool.Decides.{nat_tests}
use Rattle.std.proofs.lemmas.Str.{digit_value_digit}
use Rattle.std.proofs.lemmas.Str.Parse.{IsNumeralModel, numerals_by_value, tells_digits, digits_value_short, digit_at}
use Rattle.std.proofs.lemmas.Int.Digits.{digits_more, digits_value_more}
use Rattle.cell_types.specs.Cell.{content_of, content_value, is_null_text, null_reading, text_or_default, typed_value, value_of}
use Rattle.cell_types.specs.Column.{ColumnOf}
use Rattle.cell_types.specs.Datatype as datatype
use Rattle.cell_types.specs.Integer.{IsShortInteger}
use Rattle.cell_types.specs.Value.{integer}
use Rattle.cell_types.specs.WhiteSpace.{is_white, normal_text}
use Rattle.cell_types.proofs.IntegerLemmas.{integer-parsed, is_integer-numeral}
use Rattle.cell_types.proofs.WhiteSpaceLemmas.{is_spaced, normal-spaced}

abbrev pub model : IsNumeralModel (AllDigits 10) (digits_value 10)
model = numerals_by_value (AllDigits 10) tells_digits

-- another digit still fits
pub short_below : (ds : List ℕ) (i : ℕ) → AllDigits 10 (take i ds) → i < length ds → length ds ≤ 18 → digits_value 10 (take i ds) < 10 ^ 17
short_below ds i all lt short = digits_value_short model (take i ds) 17 all (omega (arith, length-take i ds))

pub value_below : (ds : List ℕ) → AllDigits 10 ds → length ds ≤ 18 → digits_value 10 ds < 10 ^ 18
value_below ds all short = digits_value_short model ds 18 all short

-- one more digit
pub digit_more : (ds : List ℕ) (i n d : ℕ) → i < length ds → AllDigits 10 (take i ds) → n ≡ digits_value 10 (take i ds)
    → get_or ds i 0 ≡ 48 + d → d ≤ 9 → AllDigits 10 (take (i + 1) ds) × (n * 10 + d ≡ digits_value 10 (take (i + 1) ds))
digit_more ds i n d lt all is byte small =
    let value = digit_value_digit (get_or ds i 0) (omega arith, omega arith) in
    (digits_more 10 ds i lt all (omega arith), omega (arith, digits_value_more 10 ds i lt))

-- a byte that is no digit
pub no_digit : (ds : List ℕ) (i : ℕ) → i < length ds → (48 ≤ get_or ds i 0 → get_or ds i 0 ≤ 57 → ⊥) → IsNumeral 10 ds → ⊥
no_digit ds i lt other numeral = let r = digit_at ds i numeral.1 lt in other r.0 r.1

-- ---- with a sign
fits-pos : (n : ℕ) → n < 10 ^ 18 → FitsSigned w64 (pos n)
fits-pos n below = record { sfits = omega (arith, below) }

fits-minus : (n : ℕ) → n < 10 ^ 18 → FitsSigned w64 (neg_ℤ (pos n))
fits-minus zero below = record { sfits = omega arith }
fits-minus (suc n) below = record { sfits = omega (arith, below) }

pub short_fits : (bytes : List ℕ) → IsShortInteger bytes → FitsSigned w64 (signed_digits_value 10 bytes)
short_fits bytes short =
    let n = digits_value 10 (without_leading_sign bytes) in
    let below = value_below (without_leading_sign bytes) short.0.1 short.1 in
    cond_both (starts_with_minus bytes) (neg_ℤ (pos n)) (pos n) (FitsSigned w64) (λ _. fits-minus n below) (λ _. fits-pos n below)

-- ---- no white space
white-small : (b : ℕ) → is_white b ≡ true → b < 33
white-small b e = grind (arith, nat_tests)

not_white : (b : ℕ) → 33 ≤ b → is_white b ≡ false
not_white b h = false_from_ne_true (is_white b) (λ e. absurd (omega (arith, white-small b e, h)))

abbrev pub AreSolid : List ℕ → Type 0
AreSolid bytes = (k : ℕ) → k < length bytes → 33 ≤ get_or bytes k 0

solid-spaced : (bytes : List ℕ) → AreSolid bytes → is_spaced false bytes ≡ true
solid-spaced [] solid = refl
solid-spaced (b ∷ bs) solid =
    let first : 33 ≤ b = solid 0 (omega arith) in
    rw (not_white b first) (solid-spaced bs (λ k h. solid (suc k) (omega (arith, h))))

pub solid-normal : (bytes : List ℕ) → 0 < length bytes → AreSolid bytes → normal_text bytes ≡ bytes
solid-normal [] some solid = absurd (omega arith)
solid-normal (b ∷ bs) some solid =
    let first : 33 ≤ b = solid 0 (omega arith) in
    let spaced : is_spaced true (b ∷ bs) ≡ true = rw (not_white b first) (solid-spaced bs (λ k h. solid (suc k) (omega (arith, h)))) in
    normal-spaced (b ∷ bs) spaced

behind : (bytes : List ℕ) (k : ℕ) → 33 ≤ get_or bytes 0 0 → IsNumeral 10 (drop 1 bytes) → k < length bytes → 33 ≤ get_or bytes k 0
behind [] k first numeral within = absurd (omega arith)
behind (b ∷ bs) zero first numeral within = first
behind (b ∷ bs) (suc k) first numeral within = let digit = digit_at bs k numeral.1 (omega (arith, within)) in omega (arith, digit.0)

short-solid : (bytes : List ℕ) → IsNumeral 10 (without_leading_sign bytes) → AreSolid bytes
short-solid bytes numeral k within =
    let Here : List ℕ → Type 0 = λ ds. IsNumeral 10 ds → 33 ≤ get_or bytes k 0 in
    cond_both (starts_with_minus bytes) (drop 1 bytes) (without_leading_plus bytes) Here
    (λ minus n. let first = eqb-true (get_or bytes 0 0) 45 minus in behind bytes k (omega (arith, first)) n within)
    (λ _. cond_both (slice_index bytes 0 == 43) 1 0 (λ m. Here (drop m bytes))
    (λ plus n. let first = eqb-true (get_or bytes 0 0) 43 plus in behind bytes k (omega (arith, first)) n within)
    (λ _ n. let digit = digit_at bytes k n.1 within in omega (arith, digit.0)))
    numeral

short-some : (bytes : List ℕ) → IsNumeral 10 (without_leading_sign bytes) → 0 < length bytes
short-some [] numeral = absurd (omega (arith, numeral.0))
short-some (b ∷ bs) numeral = omega arith

-- its value in a column of integers
pub short-value : (column : ColumnOf) (bytes : List ℕ) → column.datatype ≡ datatype.integer → IsShortInteger bytes → is_null_text column bytes ≡ false
    → value_of column bytes ≡ Ok (integer (signed_digits_value 10 bytes))
short-value column bytes type short null =
    let some = short-some bytes short.0 in
    let same : content_of column.datatype bytes ≡ bytes = ap (λ d. content_of d bytes) type ∙ solid-normal bytes some (short-solid bytes short.0) in
    let content : text_or_default column bytes ≡ bytes = cond-false _ _ _ (ne_eqb (length bytes) 0 (λ e. absurd (omega (arith, e, some)))) in
    let read = integer-parsed bytes (signed_digits_value 10 bytes) (is_integer-numeral bytes short.0) (short_fits bytes short) refl in
    ap (content_value column) same
    ∙ ap (λ text. if is_null_text column text then null_reading column else typed_value column.datatype text) content
    ∙ cond-false _ _ _ null ∙ ap (λ d. typed_value d bytes) type ∙ read
