-- Digits, the numbers that they write, and the number nearest to them.
use Rattle.std.proofs.Common.{◌≡◌, ◌≤◌, ◌<◌, ◌+◌, ◌*◌, ◌/◌, ◌%◌, ◌^◌, ◌==◌, ℕ, Bool, true, false, List, [], ◌∷◌, ◌++◌, length, take, drop, nat_lt, if◌then◌else◌, refl, sym, ap, subst, suc, zero, inl, inr, ◌∙◌, arith}
use Rattle.std.specs.Char.{digit_value, is_ascii_digit}
use Rattle.std.specs.List.{list_all}
use Rattle.std.specs.Str.Parse.{AllDigits, digits_value, digits_value_after}
use Rattle.std.proofs.lemmas.Bool.{and_parts, eqb-true, le-ltb, leb-true, lt-ltb, ltb-false, ltb-true}
use Rattle.std.proofs.lemmas.Int.Digits.{digits_value-lt}
use Rattle.std.proofs.lemmas.List.{append_assoc, length-take, length-take-le, take-append-drop}
use Rattle.std.proofs.lemmas.Nat.{div-add-mod', div-mul-add}
use Rattle.std.proofs.lemmas.Str.{digit_value_digit}
use Rattle.std.proofs.lemmas.Str.Parse.{digit_from_value}
use Rattle.std.proofs.Math.Nat.{eq-or-lt_of_le, mod-eq_of_lt, mul-add-mod_self_right, mul-le-mul_right, mod-lt, pow-zero, pow-succ', pow-le-pow_right}
use Rattle.cell_types.proofs.DigitLaws.{after-append, AllDigits-take, digits_model, list_all-digits}
use Rattle.value_forms.specs.Rounding.{are_zeros, is_fine, nearest_even}

-- bytes each of which is a digit
pub digits_from_all : (ds : List ℕ) → list_all is_ascii_digit ds ≡ true → AllDigits 10 ds
digits_from_all ds h = digits_model.to ds (sym (list_all-digits ds) ∙ h)

pub digits_drop : (n : ℕ) (ds : List ℕ) → AllDigits 10 ds → AllDigits 10 (drop n ds)
digits_drop zero ds h = h
digits_drop (suc n) [] h = tt
digits_drop (suc n) (d ∷ ds) h = digits_drop n ds h.1

-- a few digits write a number of 64 bits
pub short_fits : (ds : List ℕ) → AllDigits 10 ds → length ds ≤ 9 → digits_value 10 ds < 2 ^ 64
short_fits ds h short = omega (arith, digits_value-lt 10 ds h, pow-le-pow_right {n = 10} (omega arith) short)

after_is : (n : ℕ) (ds : List ℕ) → digits_value_after 10 n ds ≡ n * 10 ^ length ds + digits_value_after 10 0 ds
after_is n [] = omega (arith, ap (λ x. n * x) (pow-zero 10))
after_is n (c ∷ cs) =
    let d = digit_value c in
    omega (arith, after_is (n * 10 + d) cs, after_is (0 * 10 + d) cs, ap (λ x. n * x) (pow-succ' 10 (length cs)))

-- digits after others
pub value_append : (xs ys : List ℕ) → digits_value 10 (xs ++ ys) ≡ digits_value 10 xs * 10 ^ length ys + digits_value 10 ys
value_append xs ys = after-append 0 xs ys ∙ after_is (digits_value 10 xs) ys

zeros_value : (ds : List ℕ) → are_zeros ds ≡ true → digits_value 10 ds ≡ 0
zeros_value [] h = refl
zeros_value (d ∷ ds) h =
    let both = and_parts (d == 48) (are_zeros ds) h in
    let zero : d ≡ 48 = eqb-true d 48 both.0 in
    rw zero (zeros_value ds both.1)

value_cons : (d : ℕ) (ds : List ℕ) → digits_value 10 (d ∷ ds) ≡ digit_value d * 10 ^ length ds + digits_value 10 ds
value_cons d ds =
    let same : 0 * 10 + digit_value d ≡ digit_value d = omega arith in
    after_is (0 * 10 + digit_value d) ds ∙ ap (λ n. n * 10 ^ length ds + digits_value 10 ds) same

some_power : (k : ℕ) → 1 ≤ 10 ^ k
some_power k = let least : 0 ≤ k = omega arith in omega (arith, pow-zero 10, pow-le-pow_right {n = 10} (omega arith) least)

some_value : (ds : List ℕ) → AllDigits 10 ds → are_zeros ds ≡ false → 0 < digits_value 10 ds
some_value [] digits h = absurd (cc h)
some_value (d ∷ ds) digits h =
    elim (eq-or-lt_of_le {n = 48} {m = d} (digit_from_value d digits.0).0) [
      | inl same ↦
          let rest : are_zeros ds ≡ false = rw (sym same) at h in
          omega (arith, value_cons d ds, some_value ds digits.1 rest)
      | inr more ↦
          let one : 1 ≤ digit_value d = omega (arith, digit_value_digit d (digit_from_value d digits.0)) in
          omega (arith, value_cons d ds, mul-le-mul_right (10 ^ length ds) one, some_power (length ds))
    ]

add_zero : (n : ℕ) → n + 0 ≡ n
add_zero n = omega arith

module _ (number one rest : ℕ) (fits : rest < one) where
  whole : (number * one + rest) / one ≡ number
  whole = div-mul-add number one rest fits

  part : (number * one + rest) % one ≡ rest
  part = mul-add-mod_self_right number one rest ∙ mod-eq_of_lt fits

  -- less than half of one, more than half of it, and half of it, after a number
  nearest_below : 2 * rest < one → nearest_even (number * one + rest) one ≡ number
  unfolding nearest_even
  nearest_below less = rw (whole, part, lt-ltb (2 * rest) one less) refl

  nearest_above : one < 2 * rest → nearest_even (number * one + rest) one ≡ number + 1
  unfolding nearest_even
  nearest_above more = rw (whole, part, le-ltb (2 * rest) one (omega arith), lt-ltb one (2 * rest) more) refl

  nearest_half : one ≡ 2 * rest → nearest_even (number * one + rest) one ≡ number + number % 2
  unfolding nearest_even
  nearest_half half = rw (whole, part, le-ltb (2 * rest) one (omega arith), le-ltb one (2 * rest) (omega arith)) refl

-- a number, or that after it, is nearest to it and digits after it
abbrev pub IsNearest : ℕ → List ℕ → ℕ → Type 0
IsNearest number digits up = number + up ≡ nearest_even (number * 10 ^ length digits + digits_value 10 digits) (10 ^ length digits)

module _ (number first : ℕ) (rest : List ℕ) (digits : AllDigits 10 (first ∷ rest)) where
  abbrev one : ℕ
  one = 10 ^ length rest

  tenfold : 10 ^ length (first ∷ rest) ≡ 10 * one
  tenfold = pow-succ' 10 (length rest)

  fits : digits_value 10 (first ∷ rest) < 10 ^ length (first ∷ rest)
  fits = digits_value-lt 10 (first ∷ rest) digits

  digit : digit_value first + 48 ≡ first
  digit = digit_value_digit first (digit_from_value first digits.0)

  above : 53 < first → IsNearest number (first ∷ rest) 1
  above more =
      let six : 6 ≤ digit_value first = omega (arith, digit) in
      sym (nearest_above number _ _ fits (omega (arith, tenfold, value_cons first rest, mul-le-mul_right one six, digits_value-lt 10 rest digits.1)))

  below : first < 53 → IsNearest number (first ∷ rest) 0
  below less =
      let four : digit_value first ≤ 4 = omega (arith, digit) in
      add_zero number ∙ sym (nearest_below number _ _ fits (omega (arith, tenfold, value_cons first rest, mul-le-mul_right one four, digits_value-lt 10 rest digits.1)))

  five_of : first ≡ 53 → digits_value 10 (first ∷ rest) ≡ 5 * one + digits_value 10 rest
  five_of five = value_cons first rest ∙ ap (λ d. d * one + digits_value 10 rest) (omega (arith, digit))

  pub more_than_half : first ≡ 53 → are_zeros rest ≡ false → IsNearest number (first ∷ rest) 1
  more_than_half five some = sym (nearest_above number _ _ fits (omega (arith, tenfold, five_of five, some_value rest digits.1 some)))

  half : first ≡ 53 → are_zeros rest ≡ true → IsNearest number (first ∷ rest) (number % 2)
  half five none = sym (nearest_half number _ _ fits (omega (arith, tenfold, five_of five, zeros_value rest none)))

  odd_by : (n : ℕ) → n < 2 → (if n == 1 then 1 else 0) ≡ n
  odd_by zero less = refl
  odd_by (suc zero) less = refl
  odd_by (suc (suc n)) less = absurd (omega arith)

  pub half_by : first ≡ 53 → are_zeros rest ≡ true → IsNearest number (first ∷ rest) (if number % 2 == 1 then 1 else 0)
  half_by five none =
      subst (λ n. IsNearest number (first ∷ rest) n) (sym (odd_by (number % 2) (mod-lt number (omega arith)))) (half five none)

  beside_by : (more : Bool) → nat_lt 53 first ≡ more → (first ≡ 53 → ⊥) → IsNearest number (first ∷ rest) (if more then 1 else 0)
  beside_by true h other = above (ltb-true 53 first h)
  beside_by false h other =
      elim (eq-or-lt_of_le (ltb-false 53 first h)) [
        | inl same ↦ absurd (other same)
        | inr less ↦ below less
      ]

  pub beside : (first ≡ 53 → ⊥) → IsNearest number (first ∷ rest) (if nat_lt 53 first then 1 else 0)
  beside other = beside_by (nat_lt 53 first) refl other

-- nothing is after a number
pub nearest_alone : (number : ℕ) → IsNearest number [] 0
nearest_alone number = add_zero number ∙ sym (nearest_below number (10 ^ 0) 0 (omega (arith, pow-zero 10)) (omega (arith, pow-zero 10)))

-- what a number that is rounded has
pub record FineParts (whole places : List ℕ) : Type 0 where
  pub more : 6 < length places
  pub place_digits : AllDigits 10 places
  pub whole_digits : AllDigits 10 whole
  pub few : length whole ≤ 12

pub fine_parts : (whole places : List ℕ) → is_fine whole places ≡ true → FineParts whole places
fine_parts whole places h =
    let a = and_parts _ _ h in
    let b = and_parts _ _ a.0 in
    let c = and_parts _ _ b.0 in
    let d = and_parts _ _ c.0 in
    record {
      more = ltb-true 6 (length places) d.0;
      place_digits = digits_from_all places d.1;
      whole_digits = digits_from_all whole c.1;
      few = leb-true (length whole) 12 b.1;
    }

pub whole_fit : (whole places : List ℕ) → FineParts whole places → digits_value 10 whole < 10 ^ 12
whole_fit whole places fine = omega (arith, digits_value-lt 10 whole fine.whole_digits, pow-le-pow_right {n = 10} (omega arith) fine.few)

pub six_fit : (whole places : List ℕ) → FineParts whole places → digits_value 10 (take 6 places) < 10 ^ 6
six_fit whole places fine =
    let six : length (take 6 places) ≤ 6 = omega (arith, length-take 6 places) in
    omega (arith, digits_value-lt 10 (take 6 places) (AllDigits-take 6 places fine.place_digits), pow-le-pow_right {n = 10} (omega arith) six)

-- the digits of a number after its sixth place follow the others
pub value_cut : (whole places : List ℕ) → 6 ≤ length places
    → digits_value 10 (whole ++ places)
    ≡ (digits_value 10 whole * 1_000_000 + digits_value 10 (take 6 places)) * 10 ^ length (drop 6 places) + digits_value 10 (drop 6 places)
value_cut whole places more =
    let front = take 6 places in
    let tail = drop 6 places in
    let parted : whole ++ places ≡ (whole ++ front) ++ tail =
    ap (λ (ds : List ℕ). whole ++ ds) (sym (take-append-drop 6 places)) ∙ sym (append_assoc whole front tail) in
    let six : 10 ^ length front ≡ 1_000_000 = ap (λ k. 10 ^ k) (length-take-le 6 places more) in
    ap (digits_value 10) parted ∙ value_append (whole ++ front) tail
    ∙ ap (λ n. n * 10 ^ length tail + digits_value 10 tail) (value_append whole front ∙ ap (λ n. digits_value 10 whole * n + digits_value 10 front) six)

module _ (parts one : ℕ) (some : 0 < one) where
  abbrev HoldsOf : ℕ → Type 0
  HoldsOf number = (2 * (number * one) ≤ 2 * parts + one) × (2 * parts ≤ 2 * (number * one) + one)

  stays : 2 * (parts % one) ≤ one → HoldsOf (parts / one)
  stays less = (omega (arith, div-add-mod' parts one), omega (arith, div-add-mod' parts one))

  rises : one ≤ 2 * (parts % one) → HoldsOf (parts / one + 1)
  rises more = (omega (arith, div-add-mod' parts one, mod-lt parts some), omega (arith, div-add-mod' parts one, mod-lt parts some))

  half_of : (odd : ℕ) → odd < 2 → 2 * (parts % one) ≡ one → HoldsOf (parts / one + odd)
  half_of zero less half = subst HoldsOf (sym (add_zero (parts / one))) (stays (omega arith))
  half_of (suc zero) less half = rises (omega arith)
  half_of (suc (suc odd)) less half = absurd (omega arith)

  holds_above : (above : Bool) → nat_lt one (2 * (parts % one)) ≡ above → one ≤ 2 * (parts % one)
      → HoldsOf (if above then parts / one + 1 else parts / one + (parts / one) % 2)
  holds_above true h least = rises least
  holds_above false h least =
      let most = ltb-false one (2 * (parts % one)) h in half_of ((parts / one) % 2) (mod-lt (parts / one) (omega arith)) (omega arith)

  holds_by : (below : Bool) → nat_lt (2 * (parts % one)) one ≡ below
      → HoldsOf (if below then parts / one else if nat_lt one (2 * (parts % one)) then parts / one + 1 else parts / one + (parts / one) % 2)
  holds_by true h = stays (omega (arith, ltb-true (2 * (parts % one)) one h))
  holds_by false h = holds_above (nat_lt one (2 * (parts % one))) refl (ltb-false (2 * (parts % one)) one h)

  -- a number that is rounded is no further from it than half of one
  pub is_near : HoldsOf (nearest_even parts one)
  unfolding nearest_even
  is_near = holds_by (nat_lt (2 * (parts % one)) one) refl

even_after : (n : ℕ) → (n + n % 2) % 2 ≡ 0
even_after n = omega arith

pub half_is_even : (number half : ℕ) → 0 < half → nearest_even (number * (2 * half) + half) (2 * half) % 2 ≡ 0
half_is_even number half some = ap (λ n. n % 2) (nearest_half number (2 * half) half (omega arith) refl) ∙ even_after number
