-- The digits of integers and decimals are numbers of JSON (RFC 8259, section 6).
use Rattle.std.proofs.Common.{◌≡◌, ℕ, ℤ, pos, negsuc, zero, suc, ◌+◌, ◌/◌, ◌%◌, ◌^◌, ◌<◌, ◌≤◌, ◌==◌, Bool, true, false, cond, List, [], ◌∷◌, ◌++◌, Some, length, drop, get_or, option_and_then, decimal, refl, sym, ap, ◌∙◌, subst, arith}
use Rattle.std.specs.Fmt.{signed_decimal}
use Rattle.std.specs.Prelude.{unsigned_abs}
use Rattle.std.specs.Char.{is_ascii_digit}
use Rattle.std.specs.List.{list_all, prefix_len, AllByRecursion}
use Rattle.std.proofs.Math.Seq.{drop-append_seam}
use Rattle.std.proofs.lemmas.Bool.{and_from, and_parts, eqb-true, false≢true, le-leb, ne_eqb}
use Rattle.std.proofs.lemmas.Fmt.{decimal_by_steps_wide}
use Rattle.std.proofs.lemmas.List.{append-nil}
use Rattle.json.specs.Print.{IsNumber}
use Rattle.json.specs.Word.{after_digits, after_exponent, after_fraction, after_number, after_whole, head}
use Rattle.cell_types.specs.Decimal.{decimal_text, fraction_text, is_zero, six_digits, without_last_zeros}
use Rattle.reply_values.proofs.ByteLemmas.{all-append, all-trimmed}

-- ---- digits

abbrev IsDigit : ℕ → Type 0
IsDigit d = (48 ≤ d) × (d ≤ 57)

abbrev AreDigits : List ℕ → Type 0
AreDigits ds = AllByRecursion IsDigit ds

is_digit : (d : ℕ) → IsDigit d → is_ascii_digit d ≡ true
is_digit d h = and_from _ _ (le-leb 48 d h.0) (le-leb d 57 h.1)

-- the digits come before what begins with none
digits_before : (ds rest : List ℕ) → AreDigits ds → prefix_len is_ascii_digit rest ≡ 0 → prefix_len is_ascii_digit (ds ++ rest) ≡ length ds
digits_before [] rest h none = none
digits_before (d ∷ ds) rest h none =
    let behind = digits_before ds rest h.1 none in
    ap (λ b. cond b (1 + prefix_len is_ascii_digit (ds ++ rest)) 0) (is_digit d h.0) ∙ omega (arith, behind)

behind_digits : (d : ℕ) (ds rest : List ℕ) → AreDigits (d ∷ ds) → prefix_len is_ascii_digit rest ≡ 0 → after_digits ((d ∷ ds) ++ rest) ≡ Some rest
behind_digits d ds rest h none =
    let n = digits_before (d ∷ ds) rest h none in
    rw (n, ne_eqb (suc (length ds)) 0 (λ e. omega arith)) (ap Some (drop-append_seam (d ∷ ds) rest))

-- ---- whole numbers

-- the digits of a number: at least one, the first 0 only where it stands alone
record IsWhole (n : ℕ) (ds : List ℕ) : Type 0 where
  digits : AreDigits ds
  first : 0 < n → 48 < get_or ds 0 0
  nought : n ≡ 0 → ds ≡ 48 ∷ []

one_digit : (n : ℕ) → n < 10 → IsWhole n ((48 + n) ∷ [])
one_digit n h = record {
  digits = ((omega (arith, h), omega (arith, h)), tt);
  first = λ some. omega (arith, some);
  nought = λ none. ap (λ k. (48 + k) ∷ []) none;
}

first_stays : (ds : List ℕ) (d : ℕ) → 48 < get_or ds 0 0 → 48 < get_or (ds ++ d ∷ []) 0 0
first_stays [] d h = absurd (omega (arith, h))
first_stays (x ∷ ds) d h = h

digit_more : (n : ℕ) (ds : List ℕ) → 10 ≤ n → IsWhole (n / 10) ds → IsWhole n (ds ++ (48 + n % 10) ∷ [])
digit_more n ds h is = record {
  digits = all-append IsDigit ds ((48 + n % 10) ∷ []) is.digits ((omega arith, omega arith), tt);
  first = λ some. first_stays ds (48 + n % 10) (is.first (omega (arith, h)));
  nought = λ none. absurd (omega (arith, h, none));
}

whole : (n : ℕ) → n < 10 ^ 64 → IsWhole n (decimal n)
whole n h = decimal_by_steps_wide IsWhole one_digit digit_more n h

above_nought : (ds rest : List ℕ) → AreDigits ds → 48 < get_or ds 0 0 → prefix_len is_ascii_digit rest ≡ 0 → (after_whole (ds ++ rest) ≡ Some rest) × ((head (ds ++ rest) == 45) ≡ false)
above_nought [] rest digits first none = absurd (omega (arith, first))
above_nought (d ∷ ds) rest digits first none = (
  ap (λ b. cond b (Some (ds ++ rest)) (after_digits ((d ∷ ds) ++ rest))) (ne_eqb d 48 (λ e. omega (arith, first, e))) ∙ behind_digits d ds rest digits none,
  ne_eqb d 45 (λ e. omega (arith, first, e)),
)

behind_whole : (n : ℕ) (ds rest : List ℕ) → IsWhole n ds → prefix_len is_ascii_digit rest ≡ 0 → (after_whole (ds ++ rest) ≡ Some rest) × ((head (ds ++ rest) == 45) ≡ false)
behind_whole zero ds rest is none = let e = is.nought refl in (ap (λ l. after_whole (l ++ rest)) e, ap (λ l. head (l ++ rest) == 45) e)
behind_whole (suc n) ds rest is none = above_nought ds rest is.digits (is.first (omega arith)) none

-- ---- a whole number, and a fraction or none

record IsFraction (fs : List ℕ) : Type 0 where
  apart : prefix_len is_ascii_digit fs ≡ 0
  whole : after_fraction fs ≡ Some []

no_fraction : IsFraction []
no_fraction = record { apart = refl; whole = refl }

fraction_of : (d : ℕ) (ds : List ℕ) → AreDigits (d ∷ ds) → IsFraction (46 ∷ d ∷ ds)
fraction_of d ds digits = record {
  apart = refl;
  whole = ap after_digits (sym (append-nil (d ∷ ds))) ∙ behind_digits d ds [] digits refl;
}

number_with : (n : ℕ) (ds fs : List ℕ) → IsWhole n ds → IsFraction fs → IsNumber (ds ++ fs)
unfolding after_number
number_with n ds fs is fraction =
    let w = behind_whole n ds fs is fraction.apart in
    ap (λ b. option_and_then after_exponent (option_and_then after_fraction (after_whole (cond b (drop 1 (ds ++ fs)) (ds ++ fs))))) w.1
    ∙ ap (λ o. option_and_then after_exponent (option_and_then after_fraction o)) w.0 ∙ ap (option_and_then after_exponent) fraction.whole

negative_with : (n : ℕ) (ds fs : List ℕ) → IsWhole n ds → IsFraction fs → IsNumber (45 ∷ ds ++ fs)
unfolding after_number
negative_with n ds fs is fraction =
    let w = behind_whole n ds fs is fraction.apart in
    ap (λ o. option_and_then after_exponent (option_and_then after_fraction o)) w.0 ∙ ap (option_and_then after_exponent) fraction.whole

pub integer_is_number : (z : ℤ) → unsigned_abs z < 10 ^ 64 → IsNumber (signed_decimal z)
integer_is_number (pos n) h = subst IsNumber (append-nil (decimal n)) (number_with n (decimal n) [] (whole n h) no_fraction)
integer_is_number (negsuc n) h = subst (λ ds. IsNumber (45 ∷ ds)) (append-nil (decimal (suc n))) (negative_with (suc n) (decimal (suc n)) [] (whole (suc n) h) no_fraction)

-- ---- decimals

six_are_digits : (n : ℕ) → n < 1_000_000 → AreDigits (six_digits n)
six_are_digits n h =
    ((omega arith, omega (arith, h)), ((omega arith, omega arith), ((omega arith, omega (arith, h)), ((omega arith, omega arith), ((omega arith, omega (arith, h)), ((omega arith, omega arith), tt))))))

-- digits of which one is another than 0 leave some
some_left : (ds : List ℕ) → AreDigits ds → (list_all is_zero ds ≡ true → ⊥) → IsFraction (46 ∷ without_last_zeros ds)
some_left [] digits some = absurd (some refl)
some_left (d ∷ ds) digits some = by (list_all is_zero (d ∷ ds)) refl
  where
    by : (t : Bool) → list_all is_zero (d ∷ ds) ≡ t → IsFraction (46 ∷ cond t [] (d ∷ without_last_zeros ds))
    by true all = absurd (some all)
    by false all = fraction_of d (without_last_zeros ds) (digits.0, all-trimmed IsDigit ds digits.1)

nought_at : (ds : List ℕ) → list_all is_zero ds ≡ true → (i : ℕ) → i < length ds → get_or ds i 48 ≡ 48
nought_at [] all i h = refl
nought_at (d ∷ ds) all zero h = eqb-true d 48 (and_parts (is_zero d) (list_all is_zero ds) all).0
nought_at (d ∷ ds) all (suc i) h = nought_at ds (and_parts (is_zero d) (list_all is_zero ds) all).1 i (omega (arith, h))

all_nought : (n : ℕ) → n < 1_000_000 → list_all is_zero (six_digits n) ≡ true → n ≡ 0
all_nought n h all =
    let at : (i : ℕ) → i < 6 → get_or (six_digits n) i 48 ≡ 48 = nought_at (six_digits n) all in
    omega (arith, h, at 0 (omega arith), at 1 (omega arith), at 2 (omega arith), at 3 (omega arith), at 4 (omega arith), at 5 (omega arith))

is_fraction : (n : ℕ) → n < 1_000_000 → IsFraction (fraction_text n)
is_fraction n h = by (n == 0) refl
  where
    by : (t : Bool) → (n == 0) ≡ t → IsFraction (cond t [] (46 ∷ without_last_zeros (six_digits n)))
    by true e = no_fraction
    by false e = some_left (six_digits n) (six_are_digits n h) (λ all. false≢true (sym e ∙ ap (λ k. k == 0) (all_nought n h all)))

pub decimal_is_number : (z : ℤ) → unsigned_abs z < 10 ^ 64 → IsNumber (decimal_text z)
unfolding decimal_text
decimal_is_number (pos n) h = number_with (n / 1_000_000) (decimal (n / 1_000_000)) (fraction_text (n % 1_000_000)) (whole (n / 1_000_000) (omega (arith, h))) (is_fraction (n % 1_000_000) (omega arith))
decimal_is_number (negsuc n) h =
    negative_with (suc n / 1_000_000) (decimal (suc n / 1_000_000)) (fraction_text (suc n % 1_000_000)) (whole (suc n / 1_000_000) (omega (arith, h))) (is_fraction (suc n % 1_000_000) (omega arith))
