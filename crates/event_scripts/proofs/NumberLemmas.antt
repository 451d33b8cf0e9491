-- Numbers, and the space after one.
use Rattle.std.proofs.Common.{◌≡◌, ◌==◌, ◌∙◌, ◌+◌, ◌-◌, ◌*◌, ◌<◌, ◌≤◌, ◌++◌, ℕ, Bool, true, false, cond, not, List, [], ◌∷◌, length, take, drop, get_or, Some, None, refl, sym, ap, subst, inl, inr, arith, length-append, lit≤}
use Rattle.std.specs.List.{position, position_or_len}
use Rattle.std.specs.Char.{digit_value}
use Rattle.std.specs.Int.{IsInRange, IsOutOfRange}
use Rattle.std.specs.Str.Parse.{AllDigits, digits_value}
use Rattle.std.proofs.lemmas.Bool.{eqb-true}
use Rattle.std.proofs.lemmas.List.Sums.{passes_at_first, split_at_first}
use Rattle.std.proofs.lemmas.Int.Digits.{digits_more, digits_value_more}
use Rattle.std.proofs.lemmas.Str.{digit_value_digit}
use Rattle.std.proofs.lemmas.Str.Parse.{digit_at, digits_value-take-le}
use Rattle.event_scripts.specs.declared.number.TheConstants.{MOST_NUMBER}
use Rattle.event_scripts.specs.Command.{BeginsWithNumber, IsNumber, is_space}
use Rattle.event_scripts.proofs.LineLemmas.{found_at, found_none}

no_space : (d : ℕ) → digit_value d < 10 → is_space d ≡ false
no_space d digit = go (d == 32) refl
  where
    go : (b : Bool) → (d == 32) ≡ b → b ≡ false
    go false is = refl
    go true is = let low : digit_value 32 < 10 = subst (λ (x : ℕ). digit_value x < 10) (eqb-true d 32 is) digit in absurd (omega (arith, low))

-- the first space is after the digits
space_behind : (number rest : List ℕ) → AllDigits 10 number → position_or_len is_space (number ++ 32 ∷ rest) ≡ length number
space_behind [] rest h = refl
space_behind (d ∷ number) rest h = go (is_space d) (no_space d h.0) (space_behind number rest h.1)
  where
    go : (b : Bool) → b ≡ false → position_or_len is_space (number ++ 32 ∷ rest) ≡ length number
        → cond (not b) (1 + position_or_len is_space (number ++ 32 ∷ rest)) 0 ≡ length (d ∷ number)
    go true e behind = absurd cc
    go false e behind = omega (arith, behind)

front_of : (number rest : List ℕ) → take (length number) (number ++ 32 ∷ rest) ≡ number
front_of [] rest = grind arith
front_of (d ∷ number) rest = grind (arith, front_of number rest)

behind_of : (number rest : List ℕ) → drop (length number + 1) (number ++ 32 ∷ rest) ≡ rest
behind_of [] rest = grind arith
behind_of (d ∷ number) rest = grind (arith, behind_of number rest)

-- the number that a text begins with stands before its first space
pub record NumberAt (text : List ℕ) (n : ℕ) (rest : List ℕ) (at : ℕ) : Type 0 where
  pub less : at < length text
  pub number : IsNumber (take at text) n
  pub behind : rest ≡ drop (at + 1) text

pub number_at : {text : List ℕ} {n : ℕ} {rest : List ℕ} → BeginsWithNumber text n rest → NumberAt text n rest (position_or_len is_space text)
number_at {text} {n} {rest} (number, is, h) =
    let at : position_or_len is_space text ≡ length number = ap (position_or_len is_space) is ∙ space_behind number rest h.numeral.1 in
    let front : take (position_or_len is_space text) text ≡ number = rw (at, is) (front_of number rest) in
    record {
      less = rw (at, is, length-append) (omega arith);
      number = subst (λ (t : List ℕ). IsNumber t n) (sym front) h;
      behind = rw (at, is) (sym (behind_of number rest));
    }

-- a text begins with one number
pub one_number : {text rest others : List ℕ} {n m : ℕ} → BeginsWithNumber text n rest → BeginsWithNumber text m others → (n ≡ m) × (rest ≡ others)
one_number h k =
    let first = number_at h in
    let second = number_at k in
    (first.number.value ∙ sym second.number.value, first.behind ∙ sym second.behind)

-- what stands before the first space and after it
pub number_found : (text : List ℕ) (at n : ℕ) (front rest : List ℕ) → position is_space text ≡ Some at → front ≡ take at text → rest ≡ drop (at + 1) text
    → IsNumber front n → BeginsWithNumber text n rest
number_found text at n front rest found is behind h =
    let place = found_at text is_space at found in
    let split = split_at_first is_space text 0 place.1 in
    let space : get_or text (position_or_len is_space text) 0 ≡ 32 = eqb-true _ 32 (passes_at_first is_space text 0 place.1) in (
      front,
      rw (is, behind, place.0) (split
          ∙ ap (λ (x : ℕ). take (position_or_len is_space text) text ++ x ∷ drop (position_or_len is_space text + 1) text) space),
      h,
    )

pub number_bad : (text : List ℕ) (at : ℕ) (front : List ℕ) → position is_space text ≡ Some at → front ≡ take at text → ((n : ℕ) → ¬ (IsNumber front n))
    → (n : ℕ) (rest : List ℕ) → ¬ (BeginsWithNumber text n rest)
number_bad text at front found is none n rest h =
    let place = (found_at text is_space at found).0 in
    let first = number_at h in
    none n (subst (λ (t : List ℕ). IsNumber t n) (sym (is ∙ ap (λ (k : ℕ). take k text) place)) first.number)

-- ---- the digits that were read

pub record IsReadTo (text : List ℕ) (number at : ℕ) : Type 0 where
  pub digits : AllDigits 10 (take at text)
  pub value : number ≡ digits_value 10 (take at text)
  pub small : number ≤ MOST_NUMBER

-- one more digit
pub value_more : (text : List ℕ) (number at : ℕ) → IsReadTo text number at → at < length text → IsInRange 48 57 (get_or text at 0)
    → number * 10 + (get_or text at 0 - 48) ≡ digits_value 10 (take (at + 1) text)
value_more text number at read less digit =
    let value : get_or text at 0 - 48 ≡ digit_value (get_or text at 0) = omega (arith, digit_value_digit (get_or text at 0) digit) in
    rw value (ap (λ (n : ℕ). n * 10 + digit_value (get_or text at 0)) read.value ∙ sym (digits_value_more 10 text at less))

pub read_more : (text : List ℕ) (number at : ℕ) → IsReadTo text number at → at < length text → IsInRange 48 57 (get_or text at 0)
    → number * 10 + (get_or text at 0 - 48) ≤ MOST_NUMBER → IsReadTo text (number * 10 + (get_or text at 0 - 48)) (at + 1)
read_more text number at read less digit small =
    let below : digit_value (get_or text at 0) < 10 = omega (arith, digit_value_digit (get_or text at 0) digit) in
    record { digits = digits_more 10 text at less read.digits below; value = value_more text number at read less digit; small = small }

-- what is no digit, and a number that grew too large
pub no_digit : (text : List ℕ) (at : ℕ) → at < length text → IsOutOfRange 48 57 (get_or text at 0) → (n : ℕ) → ¬ (IsNumber text n)
no_digit text at less (inl low) n h = let digit = digit_at text at h.numeral.1 less in let least = digit.0 in omega arith
no_digit text at less (inr high) n h = let digit = digit_at text at h.numeral.1 less in let most = digit.1 in omega arith

pub grown : (text : List ℕ) (number at : ℕ) → IsReadTo text number at → at < length text → IsInRange 48 57 (get_or text at 0)
    → MOST_NUMBER < number * 10 + (get_or text at 0 - 48) → (n : ℕ) → ¬ (IsNumber text n)
grown text number at read less digit large n h =
    let more = value_more text number at read less digit in
    let least = digits_value-take-le 10 text (at + 1) (lit≤ tt) in
    let value = h.value in
    let small = h.small in
    omega arith

pub number_none : (text : List ℕ) → position is_space text ≡ None → (n : ℕ) (rest : List ℕ) → ¬ (BeginsWithNumber text n rest)
number_none text none n rest h =
    let less = (number_at h).less in
    let most = found_none text is_space none in
    omega arith
