-- The first row with a null in its key, the first with the key of an earlier row, and the row that has a key; and each of one key more.
use Rattle.std.proofs.Common.{◌≡◌, ℕ, zero, suc, ◌+◌, ◌<◌, ◌≤◌, Bool, true, false, not, cond, List, [], ◌∷◌, ◌++◌, length, get_or, Some, None, position, find, refl, arith}
use Rattle.std.specs.List.{list_any, range_with_len}
use Rattle.std.specs.Option.{option_or}
use Rattle.std.proofs.Math.Seq.{get_or-append_seam, take-append_seam}
use Rattle.std.proofs.lemmas.Bool.Decides.{nat_tests}
use Rattle.std.proofs.lemmas.List.{take-append-le, get_or_append_left, length-append}
use Rattle.std.proofs.lemmas.List.Folds.{position_or_len_push}
use Rattle.std.proofs.lemmas.List.Sums.{position_or_len_is, fails_before_first, prefix_len-le-length}
use Rattle.cell_types.specs.Value.{CellValue}
use Rattle.key_index.specs.Key.{key_eq, is_repeated, repeated_row}

-- ---- the first number of a range
pub find-none : (p : ℕ → Bool) (a n i : ℕ) → find p (range_with_len a n) ≡ None → a ≤ i → i < a + n → p i ≡ false
find-none p a zero i e l h = absurd (omega arith)
find-none p a (suc n) i e l h = grind (arith, find-none p (a + 1) n i)

-- one more number
find-more : (p q : ℕ → Bool) (a n : ℕ) → ((i : ℕ) → a ≤ i → i < a + n → q i ≡ p i)
    → find q (range_with_len a (suc n)) ≡ option_or (find p (range_with_len a n)) (cond (q (a + n)) (Some (a + n)) None)
find-more p q a zero same = grind arith
find-more p q a (suc n) same = grind (arith, same a, find-more p q (a + 1) n (λ i from to. same i (omega arith) (omega arith)))

-- ---- the first place in a list
module _ {X : Type 0} (p : X → Bool) (xs : List X) where
  pub position-here : (i : ℕ) (d : X) → i < length xs → p (get_or xs i d) ≡ true → ((k : ℕ) → k < i → p (get_or xs k d) ≡ false) → position p xs ≡ Some i
  position-here i d within does lacks = let at = position_or_len_is p xs i d (omega arith) lacks (λ _. does) in grind (arith, nat_tests)

  pub position-nowhere : (d : X) → ((k : ℕ) → k < length xs → p (get_or xs k d) ≡ false) → position p xs ≡ None
  position-nowhere d lacks = grind (arith, nat_tests, position_or_len_is p xs (length xs) d)

  pub position-none : (k : ℕ) (d : X) → position p xs ≡ None → k < length xs → p (get_or xs k d) ≡ false
  position-none k d e within = fails_before_first p xs k d (grind (arith, nat_tests))

  -- one more item
  pub position-more : (x : X) → position p (xs ++ x ∷ []) ≡ option_or (position p xs) (cond (p x) (Some (length xs)) None)
  position-more x = rw (position_or_len_push p xs x) (grind (arith, nat_tests, length-append, prefix_len-le-length (λ y. not (p y)) xs))

-- ---- lists
pub list_any-nowhere : {X : Type 0} (p : X → Bool) (xs : List X) (d : X) → ((k : ℕ) → k < length xs → p (get_or xs k d) ≡ false) → list_any p xs ≡ false
list_any-nowhere p [] d lacks = refl
list_any-nowhere p (x ∷ xs) d lacks = rw (lacks 0 (omega arith)) (list_any-nowhere p xs d (λ k less. lacks (suc k) (omega arith)))

-- ---- one more key
is_repeated-kept : (keys : List (List CellValue)) (key : List CellValue) (row : ℕ) → row < length keys → is_repeated (keys ++ key ∷ []) row ≡ is_repeated keys row
is_repeated-kept keys key row less = rw (get_or_append_left keys (key ∷ []) [] row less, take-append-le row keys (key ∷ []) (omega arith)) refl

pub repeated_row-more : (keys : List (List CellValue)) (key : List CellValue)
    → repeated_row (keys ++ key ∷ []) ≡ option_or (repeated_row keys) (cond (list_any (key_eq key) keys) (Some (length keys)) None)
repeated_row-more keys key =
    let size : length (keys ++ key ∷ []) ≡ suc (length keys) = omega (arith, length-append keys (key ∷ [])) in
    let last : 0 + length keys ≡ length keys = omega arith in
    rw (
      size,
      find-more (is_repeated keys) (is_repeated (keys ++ key ∷ [])) 0 (length keys) (λ i _ less. is_repeated-kept keys key i (omega arith)),
      last,
      get_or-append_seam keys key [] [],
      take-append_seam keys (key ∷ []),
    ) refl
