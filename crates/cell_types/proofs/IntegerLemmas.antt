-- Integers of 64 bits, and what std's `parse` reads.
use Rattle.std.proofs.Common.{◌≡◌, ℕ, ℤ, pos, negsuc, ◌==◌, ◌^◌, ◌&&◌, Bool, true, false, cond, List, Ok, Err, Result, FitsSigned, w64, arith, length, nat_lt, refl, sym, ap, ◌∙◌}
use Rattle.std.specs.Char.{is_ascii_digit}
use Rattle.std.specs.List.{list_all}
use Rattle.std.specs.Str.{all_ascii_digits}
use Rattle.std.specs.Str.Parse.{IsNumeral, ParsesSigned, signed_digits_value, without_leading_sign}
use Rattle.std.proofs.lemmas.Bool.{lt-ltb, ltb-true, and_parts, and_from, eqb-false, cond_both, false_from_ne_true, true≢false}
use Rattle.std.specs.Fmt.{signed_decimal}
use Rattle.std.proofs.lemmas.Fmt.{parse-signed_decimal}
use Rattle.cell_types.proofs.DigitLaws.{digits_model, list_all-digits}
use Rattle.cell_types.specs.declared.fault.CellFault.TheVariants.{NotInteger, OutOfRange}
use Rattle.cell_types.specs.Integer.{fits_64_bits, is_integer, integer_of}
use Rattle.cell_types.specs.Value.{CellValue, integer}
use Rattle.cell_types.specs.declared.fault.CellFault.{CellFault}

pub fits-true : (z : ℤ) → FitsSigned w64 z → fits_64_bits z ≡ true
fits-true (pos n) h = lt-ltb n (2 ^ 63) h.sfits
fits-true (negsuc n) h = lt-ltb n (2 ^ 63) h.sfits

pub true-fits : (z : ℤ) → fits_64_bits z ≡ true → FitsSigned w64 z
true-fits (pos n) h = record { sfits = ltb-true n (2 ^ 63) h }
true-fits (negsuc n) h = record { sfits = ltb-true n (2 ^ 63) h }

-- the form, in std's words
pub numeral-is_integer : (bytes : List ℕ) → is_integer bytes ≡ true → IsNumeral 10 (without_leading_sign bytes)
numeral-is_integer bytes h =
    let ds = without_leading_sign bytes in
    let both = and_parts (nat_lt 0 (length ds)) (all_ascii_digits ds) h in
    (ltb-true 0 (length ds) both.0, digits_model.to ds both.1)

-- what `parse` reads, and what it does not
pub integer-parsed : (bytes : List ℕ) (n : ℤ) → is_integer bytes ≡ true → FitsSigned w64 (signed_digits_value 10 bytes) → n ≡ signed_digits_value 10 bytes
    → integer_of bytes ≡ Ok (integer n)
unfolding integer_of
integer-parsed bytes n form within is = let fits = fits-true (signed_digits_value 10 bytes) within in rw (form, fits) (ap (λ z. Ok (integer z)) (sym is))

pub integer-out : {E : Type 0} (bytes : List ℕ) (e : E) → is_integer bytes ≡ true → ParsesSigned w64 10 bytes (Err e) → integer_of bytes ≡ Err OutOfRange
unfolding integer_of
integer-out bytes e form h =
    let out = false_from_ne_true (fits_64_bits (signed_digits_value 10 bytes))
    (λ t. h (numeral-is_integer bytes form, true-fits (signed_digits_value 10 bytes) t)) in
    rw (form, out) refl

pub integer-not : (bytes : List ℕ) → is_integer bytes ≡ false → integer_of bytes ≡ Err NotInteger
unfolding integer_of
integer-not bytes form = rw form refl

-- digits after the sign
pub list_all-is_integer : (bytes ds : List ℕ) → ds ≡ without_leading_sign bytes → (length ds == 0) ≡ false → list_all is_ascii_digit ds ≡ is_integer bytes
list_all-is_integer bytes ds is some =
    let long : nat_lt 0 (length ds) ≡ true = lt-ltb 0 (length ds) (omega (arith, eqb-false (length ds) 0 some)) in
    list_all-digits ds ∙ ap (λ b. b && all_ascii_digits ds) (sym long) ∙ ap (λ xs. nat_lt 0 (length xs) && all_ascii_digits xs) is

-- std's form of the number that a text writes
abbrev parsed : List ℕ → Result ℤ ℕ
parsed bytes = let z = signed_digits_value 10 bytes in cond (is_integer bytes) (cond (fits_64_bits z) (Ok z) (Err 0)) (Err 0)

pub is_integer-numeral : (bytes : List ℕ) → IsNumeral 10 (without_leading_sign bytes) → is_integer bytes ≡ true
is_integer-numeral bytes h =
    let ds = without_leading_sign bytes in
    and_from (nat_lt 0 (length ds)) (all_ascii_digits ds) (lt-ltb 0 (length ds) h.0) (digits_model.from ds h.1)

parsed-is : (bytes : List ℕ) → ParsesSigned w64 10 bytes (parsed bytes)
parsed-is bytes =
    let z = signed_digits_value 10 bytes in
    let Parses : Result ℤ ℕ → Type 0 = λ r. ParsesSigned w64 10 bytes r in
    cond_both (is_integer bytes) (cond (fits_64_bits z) (Ok z) (Err 0)) (Err 0) Parses
    (λ form. cond_both (fits_64_bits z) (Ok z) (Err 0) Parses
    (λ fits. ((numeral-is_integer bytes form, true-fits z fits), refl))
    (λ out p. true≢false (sym (fits-true z p.1) ∙ out)))
    (λ other p. true≢false (sym (is_integer-numeral bytes p.0) ∙ other))

no_number : (z : ℤ) → ◌≡◌ {A = Result ℤ ℕ} (Err 0) (Ok z) → ⊥
no_number z e = cc

one_number : (m n : ℤ) → ◌≡◌ {A = Result ℤ ℕ} (Ok m) (Ok n) → m ≡ n
one_number m n e = cc

-- and the definition's
read_as : (form fits : Bool) (n z : ℤ) → ◌≡◌ {A = Result ℤ ℕ} (cond form (cond fits (Ok n) (Err 0)) (Err 0)) (Ok z)
    → ◌≡◌ {A = Result CellValue CellFault} (cond form (cond fits (Ok (integer n)) (Err OutOfRange)) (Err NotInteger)) (Ok (integer z))
read_as true true n z e = ap (λ k. Ok (integer k)) (one_number n z e)
read_as true false n z e = absurd (no_number z e)
read_as false fits n z e = absurd (no_number z e)

integer_of-parsed : (bytes : List ℕ) (z : ℤ) → parsed bytes ≡ Ok z → integer_of bytes ≡ Ok (integer z)
unfolding integer_of
integer_of-parsed bytes z e = read_as (is_integer bytes) (fits_64_bits (signed_digits_value 10 bytes)) (signed_digits_value 10 bytes) z e

pub integer_of-signed_decimal : (z : ℤ) → FitsSigned w64 z → integer_of (signed_decimal z) ≡ Ok (integer z)
integer_of-signed_decimal z fits =
    integer_of-parsed (signed_decimal z) z (parse-signed_decimal w64 z (signed_decimal z) (parsed (signed_decimal z)) fits fits.sfits refl (parsed-is (signed_decimal z)))

pub integer_of-only : (bytes : List ℕ) (v : CellValue) → integer_of bytes ≡ Ok v → (z : ℤ) × FitsSigned w64 z × (v ≡ integer z)
unfolding integer_of
integer_of-only bytes v =
    let n = signed_digits_value 10 bytes in
    let Only : Result CellValue CellFault → Type 0 = λ r. r ≡ Ok v → (z : ℤ) × FitsSigned w64 z × (v ≡ integer z) in
    cond_both (is_integer bytes) (cond (fits_64_bits n) (Ok (integer n)) (Err OutOfRange)) (Err NotInteger) Only
    (λ _. cond_both (fits_64_bits n) (Ok (integer n)) (Err OutOfRange) Only (λ fits e. (n, true-fits n fits, cc)) (λ _ e. cc))
    (λ _ e. cc)
