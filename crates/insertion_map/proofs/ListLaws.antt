-- Crates above may cite this file: laws of lists alone.
use Rattle.std.proofs.Common.{◌≡◌, ◌⊎◌, ℕ, zero, suc, ◌+◌, List, [], ◌∷◌, ◌++◌, length, Some, inl, inr, refl, sym, ap, arith}
use Rattle.std.specs.List.{range_with_len, slice_get}
use Rattle.std.proofs.lemmas.Option.{none-some, same_Some}

-- one number more
pub range_with_len-suc : (a n : ℕ) → range_with_len a (suc n) ≡ range_with_len a n ++ (a + n) ∷ []
range_with_len-suc a zero = let e : a + 0 ≡ a = omega arith in rw e refl
range_with_len-suc a (suc n) = let e : a + suc n ≡ (a + 1) + n = omega arith in rw e (ap (λ rest. a ∷ rest) (range_with_len-suc (a + 1) n))

-- an element that is there, where one more came
pub pushed-old : {X : Type 0} (xs : List X) (y : X) (i : ℕ) (x : X) → slice_get xs i ≡ Some x → slice_get (xs ++ y ∷ []) i ≡ Some x
pushed-old [] y i x e = absurd (none-some x e)
pushed-old (z ∷ xs) y zero x e = e
pushed-old (z ∷ xs) y (suc i) x e = pushed-old xs y i x e

pub pushed-cases : {X : Type 0} (xs : List X) (y : X) (i : ℕ) (x : X) → slice_get (xs ++ y ∷ []) i ≡ Some x → (slice_get xs i ≡ Some x) ⊎ ((i ≡ length xs) × (x ≡ y))
pushed-cases [] y zero x e = inr (refl, sym (same_Some y x e))
pushed-cases [] y (suc i) x e = absurd (none-some x e)
pushed-cases (z ∷ xs) y zero x e = inl e
pushed-cases (z ∷ xs) y (suc i) x e = elim (pushed-cases xs y i x e) [ inl h ↦ inl h | inr h ↦ inr (ap suc h.0, h.1) ]
