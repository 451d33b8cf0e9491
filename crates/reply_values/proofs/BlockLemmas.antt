-- From the blocks of a text to its first byte that passes a test.
use Rattle.std.proofs.Common.{◌≡◌, ℕ, zero, suc, ◌+◌, ◌-◌, ◌<◌, ◌≤◌, Bool, true, false, not, ◌||◌, ◌==◌, cond, ltb, min, List, [], ◌∷◌, length, take, drop, refl, ap, ◌∙◌, arith, tests}
use Rattle.std.specs.List.{position_or_len, list_any}
use Rattle.std.proofs.lemmas.List.Sums.{prefix_len-le-length}

pub first_within : (p : ℕ → Bool) (xs : List ℕ) → position_or_len p xs ≤ length xs
first_within p xs = prefix_len-le-length (λ b. not (p b)) xs

-- the first of the front
first_of_front : (p : ℕ → Bool) (xs : List ℕ) (n : ℕ) → position_or_len p (take n xs) ≡ min n (position_or_len p xs)
first_of_front p xs zero = grind arith
first_of_front p [] (suc n) = grind arith
first_of_front p (x ∷ xs) (suc n) = by (p x) (first_of_front p xs n)
  where
    by : (t : Bool) → position_or_len p (take n xs) ≡ min n (position_or_len p xs)
        → cond (not t) (1 + position_or_len p (take n xs)) 0 ≡ min (suc n) (cond (not t) (1 + position_or_len p xs) 0)
    by true e = grind arith
    by false e = grind arith

-- the first of what is after a front where none passes
first_of_rest : (p : ℕ → Bool) (xs : List ℕ) (at : ℕ) → at ≤ position_or_len p xs → position_or_len p xs ≡ at + position_or_len p (drop at xs)
first_of_rest p xs zero h = omega arith
first_of_rest p [] (suc at) h = absurd (omega arith)
first_of_rest p (x ∷ xs) (suc at) h = by (p x) (first_of_rest p xs at) h
  where
    by : (t : Bool) → (at ≤ position_or_len p xs → position_or_len p xs ≡ at + position_or_len p (drop at xs))
        → suc at ≤ cond (not t) (1 + position_or_len p xs) 0 → cond (not t) (1 + position_or_len p xs) 0 ≡ suc at + position_or_len p (drop at xs)
    by true before h = absurd (omega arith)
    by false before h = omega (arith, before (omega arith))

-- what a block tells of the text, where none before it passes
pub block_tells : (p : ℕ → Bool) (xs : List ℕ) (n at r : ℕ) → at ≤ position_or_len p xs → r ≡ position_or_len p (take n (drop at xs))
    → r ≡ min n (position_or_len p xs - at)
block_tells p xs n at r before is =
    is ∙ first_of_front p (drop at xs) n ∙ ap (min n) (omega (arith, first_of_rest p xs at before))

-- whether one passes
any_is_first : (p : ℕ → Bool) (xs : List ℕ) → list_any p xs ≡ ltb (position_or_len p xs) (length xs)
any_is_first p [] = refl
any_is_first p (x ∷ xs) = by (p x) (any_is_first p xs)
  where
    by : (t : Bool) → list_any p xs ≡ ltb (position_or_len p xs) (length xs)
        → (t || list_any p xs) ≡ ltb (cond (not t) (1 + position_or_len p xs) 0) (suc (length xs))
    by true e = grind (arith, tests)
    by false e = e ∙ grind (arith, tests)

-- none passes where the first is past the end
pub none_is_past : (p : ℕ → Bool) (xs : List ℕ) → not (list_any p xs) ≡ (position_or_len p xs == length xs)
none_is_past p xs = by (any_is_first p xs) (first_within p xs)
  where
    by : list_any p xs ≡ ltb (position_or_len p xs) (length xs) → position_or_len p xs ≤ length xs → not (list_any p xs) ≡ (position_or_len p xs == length xs)
    by any within = ap not any ∙ grind (arith, tests)

-- the first stands in a block
pub first_here : (p : ℕ → Bool) (xs : List ℕ) (n at r : ℕ) → at ≤ position_or_len p xs → r ≡ position_or_len p (take n (drop at xs)) → r < n
    → position_or_len p xs ≡ at + r
first_here p xs n at r before is short = omega (arith, block_tells p xs n at r before is, short)

-- the first stands after a block
pub first_later : (p : ℕ → Bool) (xs : List ℕ) (n at r : ℕ) → at ≤ position_or_len p xs → r ≡ position_or_len p (take n (drop at xs)) → n ≤ r
    → at + n ≤ position_or_len p xs
first_later p xs n at r before is whole = omega (arith, block_tells p xs n at r before is, whole)

-- what the last block tells
pub first_at_last : (p : ℕ → Bool) (xs : List ℕ) (n last r : ℕ) → last ≤ position_or_len p xs → r ≡ position_or_len p (take n (drop last xs))
    → length xs ≡ last + n → position_or_len p xs ≡ last + r
first_at_last p xs n last r before is long = omega (arith, block_tells p xs n last r before is, first_within p xs)
