-- Numbers of texts, written one by one.
use Rattle.std.proofs.Common.{◌≡◌, ◌+◌, ◌<◌, ℕ, inl, inr, Bool, true, List, Option, length, get_or, subst, sym, ap, ◌∙◌, arith}
use Rattle.std.specs.Prelude.{ℤ, pos, set}
use Rattle.std.proofs.lemmas.Bool.{cases_eq}
use Rattle.std.proofs.lemmas.List.{get_or-set_other, get_or-set_same}
use Rattle.number_kernels.specs.Lanes.{number_at, unless_null, IsWanted}

-- one number more is written
pub number-written : (f : ℕ → Option ℤ) (wanted : List Bool) (values : List ℤ) (nulls : List Bool) (i : ℕ) (n : Option ℤ) (value : ℤ) (null : Bool) → i < length values → i < length nulls
    → unless_null null value ≡ n → (IsWanted wanted i → n ≡ f i) → ((k : ℕ) → k < i → IsWanted wanted k → number_at values nulls k ≡ f k)
    → (k : ℕ) → k < i + 1 → IsWanted wanted k → number_at (set values i value) (set nulls i null) k ≡ f k
number-written f wanted values nulls i n value null in_values in_nulls is new so_far k h w = elim (cases_eq k i) [
  | inl same ↦
      let here : number_at (set values i value) (set nulls i null) i ≡ f i =
      ap (λ b. unless_null b (get_or (set values i value) i (pos 0))) (get_or-set_same nulls i null true in_nulls)
      ∙ ap (unless_null null) (get_or-set_same values i value (pos 0) in_values)
      ∙ is
      ∙ new (subst (IsWanted wanted) same w) in
      subst (λ j. number_at (set values i value) (set nulls i null) j ≡ f j) (sym same) here
  | inr other ↦
      ap (λ b. unless_null b (get_or (set values i value) k (pos 0))) (get_or-set_other nulls i k null true other)
      ∙ ap (unless_null (get_or nulls k true)) (get_or-set_other values i k value (pos 0) other)
      ∙ so_far k (omega (arith, h, other)) w
]
