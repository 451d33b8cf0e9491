-- Zeros before and after digits.
use Rattle.std.proofs.Common.{◌≡◌, ◌∙◌, ℕ, zero, suc, ◌+◌, List, [], ◌∷◌, ◌++◌, length, ap, refl, add-one, append_assoc}
use Rattle.value_forms.specs.Scale.{zeros}

pub zeros-suc : (n : ℕ) → zeros n ++ 48 ∷ [] ≡ zeros (suc n)
zeros-suc zero = refl
zeros-suc (suc n) = ap (λ (l : List ℕ). 48 ∷ l) (zeros-suc n)

pub zeros-more : (n : ℕ) (front : List ℕ) → (front ++ zeros n) ++ 48 ∷ [] ≡ front ++ zeros (n + 1)
zeros-more n front = append_assoc front (zeros n) (48 ∷ []) ∙ ap (λ (l : List ℕ). front ++ l) (rw add-one (zeros-suc n))

pub length-zeros : (n : ℕ) → length (zeros n) ≡ n
length-zeros zero = refl
length-zeros (suc n) = ap suc (length-zeros n)
