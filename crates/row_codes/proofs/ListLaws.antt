-- Crates above may cite this file: laws of lists alone.
use Rattle.std.proofs.Common.{ℕ, zero, suc, ◌<◌, List, [], ◌∷◌, length, get_or, arith}
use Rattle.std.specs.List.{AllZip}

module _ {A B : Type 0} (R : A → B → Type 0) where
  pub zip_at : (xs : List A) (ys : List B) (i : ℕ) (d : A) (e : B) → AllZip R xs ys → i < length ys → R (get_or xs i d) (get_or ys i e)
  zip_at [] [] i d e z h = absurd (omega arith)
  zip_at [] (y ∷ ys) i d e z h = absurd z
  zip_at (x ∷ xs) [] i d e z h = absurd z
  zip_at (x ∷ xs) (y ∷ ys) zero d e z h = z.0
  zip_at (x ∷ xs) (y ∷ ys) (suc i) d e z h = zip_at xs ys i d e z.1 (omega arith)
