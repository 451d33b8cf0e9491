-- How many digits numbers have, four at a time.
use Rattle.std.proofs.Common.{◌≡◌, ℕ, suc, ◌+◌, ◌/◌, ◌%◌, ◌^◌, ◌<◌, ◌≤◌, ◌==◌, Bool, true, false, cond, List, [], ◌∷◌, ◌++◌, codes, length, length-append, refl, ap, ◌∙◌, arith}
use Rattle.std.specs.List.{list_all}
use Rattle.std.proofs.lemmas.Fmt.{decimal_digit, length-decimal-le_wide}
use Rattle.cell_types.specs.Date.{four_digits as digits_of_four}
use Rattle.cell_types.specs.Decimal.{fraction_text, is_zero, millionths_text, six_digits, without_last_zeros}
use Rattle.std.specs.Fmt.{decimal}
use Rattle.itoa.proofs.Decimal.{decimal_four, decimal_pair, decimal_two, length_four, length_one, length_pair, length_two}

pub three_digits : (n : ℕ) → 100 ≤ n → n < 1_000 → length (decimal n) ≡ 3
three_digits n low high = omega (arith, length_pair n low (omega arith), length_one (n / 100) (omega arith))

pub four_digits : (n : ℕ) → 1_000 ≤ n → n < 10_000 → length (decimal n) ≡ 4
four_digits n low high = omega (arith, length_pair n (omega arith) (omega arith), length_two (n / 100) (omega arith) (omega arith))

pub eight_more : (n : ℕ) → 100_000_000 ≤ n → n < 2 ^ 64 → length (decimal n) ≡ length (decimal (n / 100_000_000)) + 8
eight_more n low high =
    let front : n / 10_000 / 10_000 ≡ n / 100_000_000 = omega arith in
    omega (arith, length_four n (omega arith) high, length_four (n / 10_000) (omega arith) (omega arith), ap (λ m. length (decimal m)) front)

pub twelve_more : (n : ℕ) → 1_000_000_000_000 ≤ n → n < 2 ^ 64 → length (decimal n) ≡ length (decimal (n / 1_000_000_000_000)) + 12
twelve_more n low high =
    let front : n / 100_000_000 / 10_000 ≡ n / 1_000_000_000_000 = omega arith in
    omega (arith, eight_more n (omega arith) high, length_four (n / 100_000_000) (omega arith) (omega arith), ap (λ m. length (decimal m)) front)

pub sixteen_more : (n : ℕ) → 10_000_000_000_000_000 ≤ n → n < 2 ^ 64 → length (decimal n) ≡ length (decimal (n / 10_000_000_000_000_000)) + 16
sixteen_more n low high =
    let front : n / 100_000_000 / 100_000_000 ≡ n / 10_000_000_000_000_000 = omega arith in
    omega (arith, eight_more n (omega arith) high, eight_more (n / 100_000_000) (omega arith) (omega arith), ap (λ m. length (decimal m)) front)

-- ---- the digits of a number below 10,000

pub digits_one : (n : ℕ) → n < 10 → decimal n ≡ (48 + n % 100 % 10) ∷ []
digits_one n high = let same : n % 100 % 10 ≡ n = omega arith in rw same (decimal_digit n high)

pub digits_two : (n : ℕ) → 10 ≤ n → n < 100 → decimal n ≡ (48 + n % 100 / 10) ∷ (48 + n % 100 % 10) ∷ []
digits_two n low high = let same : n % 100 ≡ n = omega arith in rw same (decimal_two n low high)

pub digits_three : (n : ℕ) → 100 ≤ n → n < 1_000 → decimal n ≡ (48 + n / 100 % 10) ∷ (48 + n % 100 / 10) ∷ (48 + n % 100 % 10) ∷ []
digits_three n low high =
    let same : n / 100 % 10 ≡ n / 100 = omega arith in
    decimal_pair n low (omega arith) ∙ rw (decimal_digit (n / 100) (omega arith), same) refl

pub digits_four : (n : ℕ) → 1_000 ≤ n → n < 10_000 → decimal n ≡ (48 + n / 100 / 10) ∷ (48 + n / 100 % 10) ∷ (48 + n % 100 / 10) ∷ (48 + n % 100 % 10) ∷ []
digits_four n low high =
    decimal_pair n (omega arith) (omega arith) ∙ rw (decimal_two (n / 100) (omega arith) (omega arith)) refl

-- and those of another
pub digits_more : (n : ℕ) → 10_000 ≤ n → n < 2 ^ 64 → decimal n ≡ decimal (n / 10_000) ++ digits_of_four (n % 10_000)
digits_more n low high = decimal_four n low high

-- ---- no number is long

pub short_number : (n : ℕ) → n < 2 ^ 64 → length (decimal n) ≤ 20
short_number n fits = length-decimal-le_wide 20 n (omega arith) (omega (arith, fits)) (omega (arith, fits))

few_left : (ds : List ℕ) → length (without_last_zeros ds) ≤ length ds
few_left [] = omega arith
few_left (d ∷ ds) = by (list_all is_zero (d ∷ ds)) (few_left ds)
  where
    by : (t : Bool) → length (without_last_zeros ds) ≤ length ds → length (cond t [] (d ∷ without_last_zeros ds)) ≤ suc (length ds)
    by true h = omega arith
    by false h = omega (arith, h)

pub short_fraction : (n : ℕ) → length (fraction_text n) ≤ 7
short_fraction n = by (n == 0)
  where
    by : (t : Bool) → length (cond t [] (codes "." ++ without_last_zeros (six_digits n))) ≤ 7
    by true = omega arith
    by false =
        let six : length (six_digits n) ≡ 6 = refl in
        omega (arith, few_left (six_digits n), six)

pub short_millionths : (n : ℕ) → n < 10 ^ 60 → length (millionths_text n) ≤ 67
short_millionths n fits =
    omega (arith, length-append (decimal (n / 1_000_000)) (fraction_text (n % 1_000_000)), length-decimal-le_wide 60 (n / 1_000_000) (omega arith) (omega (arith, fits)) (omega (arith, fits)), short_fraction (n % 1_000_000))
