-- Placing each element in turn gives a list in order.
use Rattle.std.proofs.Common.{◌≡◌, inl, inr, ℕ, zero, suc, ◌+◌, Bool, true, false, not, ◌&&◌, cond, List, [], ◌∷◌, get_or, refl, sym, ap, ◌∙◌, subst, arith}
use Rattle.std.specs.Cmp.{IsStrictWeakOrder}
use Rattle.std.specs.List.{filter}
use Rattle.std.specs.List.Sorted.{IsPermutation, IsSorted, IsStable, ties}
use Rattle.std.specs.Ordering.{is_lt}
use Rattle.std.specs.declared.cmp.Ordering.{Ordering}
use Rattle.std.proofs.lemmas.Bool.{cases_Bool}
use Rattle.std.proofs.lemmas.List.Sorted.{IsPermutation-cons, IsPermutation-middle, IsPermutation-refl, IsPermutation-trans}
use Rattle.query_meaning.specs.Order.{placed, sorted}

module _ {X : Type 0} (cmp : X → X → Ordering) where
  abbrev less : X → X → Bool
  less x y = is_lt (cmp x y)

  -- ---- the same elements

  placed_shuffles : (x : X) (ys : List X) → IsPermutation (x ∷ ys) (placed cmp x ys)
  placed_shuffles x [] = IsPermutation-refl (x ∷ [])
  placed_shuffles x (y ∷ ys) = elim (cases_Bool (is_lt (cmp y x))) [
    | inl e ↦ rw e (IsPermutation-trans (x ∷ y ∷ ys) (y ∷ x ∷ ys) (y ∷ placed cmp x ys) (IsPermutation-middle (x ∷ []) y ys) (IsPermutation-cons y (x ∷ ys) (placed cmp x ys) (placed_shuffles x ys)))
    | inr e ↦ rw e (IsPermutation-refl (x ∷ y ∷ ys))
  ]

  pub sorted_shuffles : (xs : List X) → IsPermutation xs (sorted cmp xs)
  sorted_shuffles [] = IsPermutation-refl []
  sorted_shuffles (x ∷ xs) =
      IsPermutation-trans (x ∷ xs) (x ∷ sorted cmp xs) (placed cmp x (sorted cmp xs)) (IsPermutation-cons x xs (sorted cmp xs) (sorted_shuffles xs))
      (placed_shuffles x (sorted cmp xs))

  -- ---- in order

  -- the first element is not less than another
  abbrev Follows : X → List X → Type 0
  Follows x [] = Unit {0}
  Follows x (y ∷ ys) = less y x ≡ false

  abbrev Rises : List X → Type 0
  Rises [] = Unit {0}
  Rises (x ∷ xs) = Follows x xs × Rises xs

  rises_sorted : (xs : List X) → Rises xs → IsSorted cmp xs
  rises_sorted [] r k d l h = absurd (omega arith)
  rises_sorted (x ∷ []) r k d l h = absurd (omega arith)
  rises_sorted (x ∷ y ∷ ys) r zero d l h = r.0
  rises_sorted (x ∷ y ∷ ys) r (suc k) d l h =
      let e : suc k + 1 ≡ suc (k + 1) = omega arith in
      subst (λ (n : ℕ). less (get_or (x ∷ y ∷ ys) n d) (get_or (y ∷ ys) k d) ≡ false) (sym e) (rises_sorted (y ∷ ys) r.1 k d (omega arith) (omega arith))

  placed_follows : (z x : X) (ys : List X) → less x z ≡ false → Follows z ys → Follows z (placed cmp x ys)
  placed_follows z x [] h f = h
  placed_follows z x (y ∷ ys) h f = elim (cases_Bool (is_lt (cmp y x))) [ inl e ↦ rw e f | inr e ↦ rw e h ]

  module _ (order : IsStrictWeakOrder less) where
    placed_rises : (x : X) (ys : List X) → Rises ys → Rises (placed cmp x ys)
    placed_rises x [] r = (tt, tt)
    placed_rises x (y ∷ ys) r = elim (cases_Bool (is_lt (cmp y x))) [
      | inl e ↦ rw e (placed_follows y x ys (order.one_way y x e) r.0, placed_rises x ys r.1)
      | inr e ↦ rw e (e, r)
    ]

    sorted_rises : (xs : List X) → Rises (sorted cmp xs)
    sorted_rises [] = tt
    sorted_rises (x ∷ xs) = placed_rises x (sorted cmp xs) (sorted_rises xs)

    pub sorted_in_order : (xs : List X) → IsSorted cmp (sorted cmp xs)
    sorted_in_order xs = rises_sorted (sorted cmp xs) (sorted_rises xs)

    -- ---- those that tie stay as they were

    no_less : (a b : Bool) → not a && not b ≡ true → (a ≡ false) × (b ≡ false)
    no_less true b h = cc
    no_less false true h = cc
    no_less false false h = (refl, refl)

    -- of two elements of which one is less not both tie with a third
    not_both : (z x y : X) → less y x ≡ true → ties less z x ≡ true → ties less z y ≡ false
    not_both z x y e h = elim (cases_Bool (ties less z y)) [
      | inl k ↦ (let a = no_less (less z x) (less x z) h in let b = no_less (less z y) (less y z) k in let c = order.chain y z x b.1 a.0 in cc)
      | inr k ↦ k
    ]

    placed_stable : (z x : X) (ys : List X) → filter (ties less z) (placed cmp x ys) ≡ filter (ties less z) (x ∷ ys)
    placed_stable z x [] = refl
    placed_stable z x (y ∷ ys) = elim (cases_Bool (is_lt (cmp y x))) [
      | inl e ↦ rw e (elim (cases_Bool (ties less z x)) [
        | inl h ↦ (let k = not_both z x y e h in rw (k, placed_stable z x ys, h) refl)
        | inr h ↦ rw (placed_stable z x ys, h) refl
      ])
      | inr e ↦ rw e refl
    ]

    pub sorted_stable : (xs : List X) → IsStable cmp xs (sorted cmp xs)
    sorted_stable [] z = refl
    sorted_stable (x ∷ xs) z = placed_stable z x (sorted cmp xs) ∙ ap (λ (l : List X). cond (ties less z x) (x ∷ l) l) (sorted_stable xs z)
