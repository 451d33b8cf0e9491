-- Fronts of lists that are merged.
use Rattle.std.proofs.Common.{◌≡◌, ℕ, zero, suc, ◌+◌, ◌≤◌, inl, inr, Bool, true, false, List, [], ◌∷◌, length, take, drop, refl, sym, ap, ◌∙◌, subst, arith}
use Rattle.std.specs.Cmp.{IsStrictWeakOrder}
use Rattle.std.specs.List.{AllByRecursion}
use Rattle.std.specs.Ordering.{is_lt}
use Rattle.std.specs.declared.cmp.Ordering.{Ordering}
use Rattle.std.proofs.lemmas.Bool.{cases_Bool}
use Rattle.sort_rows.specs.Merge.{merged}
use Rattle.result_rows.specs.Fronts.{IsSplitAt}
use Rattle.sort_rows.proofs.RisingLemmas.{all_merged}

-- ---- all elements

module _ {X : Type 0} where
  pub all_fewer : (P : X → Type 0) (k n : ℕ) (xs : List X) → k ≤ n → AllByRecursion P (take n xs) → AllByRecursion P (take k xs)
  all_fewer P zero n xs h are = tt
  all_fewer P (suc k) zero xs h are = absurd (omega (arith, h))
  all_fewer P (suc k) (suc n) [] h are = tt
  all_fewer P (suc k) (suc n) (x ∷ xs) h are = (are.0, all_fewer P k n xs (omega (arith, h)) are.1)

  pub all_more : (P : X → Type 0) (n k m : ℕ) (xs : List X) → m ≡ n + k → AllByRecursion P (take n xs) → AllByRecursion P (take k (drop n xs)) → AllByRecursion P (take m xs)
  all_more P zero k m xs e front more = subst (λ j. AllByRecursion P (take j xs)) (let f : k ≡ m = omega (arith, e) in f) more
  all_more P (suc n) k zero xs e front more = absurd (omega (arith, e))
  all_more P (suc n) k (suc m) [] e front more = tt
  all_more P (suc n) k (suc m) (x ∷ xs) e front more = (front.0, all_more P n k m xs (omega (arith, e)) front.1 more)

  pub dropped_twice : (n k m : ℕ) (xs : List X) → m ≡ n + k → drop k (drop n xs) ≡ drop m xs
  dropped_twice zero k m xs e = ap (λ j. drop j xs) (let f : k ≡ m = omega (arith, e) in f)
  dropped_twice (suc n) k zero xs e = absurd (omega (arith, e))
  dropped_twice (suc n) zero (suc m) [] e = refl
  dropped_twice (suc n) (suc k) (suc m) [] e = refl
  dropped_twice (suc n) k (suc m) (x ∷ xs) e = dropped_twice n k m xs (omega (arith, e))

-- ---- two lists

module _ {X : Type 0} (cmp : X → X → Ordering) where
  abbrev less : X → X → Bool
  less x y = is_lt (cmp x y)

  merged_none : (xs : List X) → merged cmp xs [] ≡ xs
  merged_none [] = refl
  merged_none (x ∷ xs) = refl

  pub length_merged : (xs ys : List X) → length (merged cmp xs ys) ≡ length xs + length ys
  length_merged [] ys = omega arith
  length_merged (x ∷ xs) [] = omega arith
  length_merged (x ∷ xs) (y ∷ ys) = elim (cases_Bool (is_lt (cmp y x))) [
    | inl e ↦ (let k = length_merged (x ∷ xs) ys in rw e (omega (arith, k)))
    | inr e ↦ (let k = length_merged xs (y ∷ ys) in rw e (omega (arith, k)))
  ]

  -- the first ones of two lists come before the others of both
  module _ (A B C D : X → Type 0) (stay : (x y : X) → A x → B y → is_lt (cmp y x) ≡ false) (pass : (x y : X) → C y → D x → is_lt (cmp y x) ≡ true) where
    pub merged_front : (xs ys : List X) (n m k : ℕ) → k ≡ n + m → n ≤ length xs → m ≤ length ys
        → AllByRecursion A (take n xs) → AllByRecursion B (drop m ys) → AllByRecursion C (take m ys) → AllByRecursion D (drop n xs)
        → (take k (merged cmp xs ys) ≡ merged cmp (take n xs) (take m ys)) × (drop k (merged cmp xs ys) ≡ merged cmp (drop n xs) (drop m ys))
    merged_front [] ys zero m k e nx my a b c d = let f : k ≡ m = omega (arith, e) in (ap (λ j. take j ys) f, ap (λ j. drop j ys) f)
    merged_front [] ys (suc n) m k e nx my a b c d = absurd (omega (arith, nx))
    merged_front (x ∷ xs) [] n (suc m) k e nx my a b c d = absurd (omega (arith, my))
    merged_front (x ∷ xs) [] n zero k e nx my a b c d =
        let f : k ≡ n = omega (arith, e) in
        (ap (λ j. take j (x ∷ xs)) f ∙ sym (merged_none (take n (x ∷ xs))), ap (λ j. drop j (x ∷ xs)) f ∙ sym (merged_none (drop n (x ∷ xs))))
    merged_front (x ∷ xs) (y ∷ ys) zero zero zero e nx my a b c d = (refl, refl)
    merged_front (x ∷ xs) (y ∷ ys) zero zero (suc k) e nx my a b c d = absurd (omega (arith, e))
    merged_front (x ∷ xs) (y ∷ ys) (suc n) m zero e nx my a b c d = absurd (omega (arith, e))
    merged_front (x ∷ xs) (y ∷ ys) zero (suc m) zero e nx my a b c d = absurd (omega (arith, e))
    merged_front (x ∷ xs) (y ∷ ys) (suc n) zero (suc k) e nx my a b c d =
        let t = stay x y a.0 b.0 in
        let i = merged_front xs (y ∷ ys) n zero k (omega (arith, e)) (omega (arith, nx)) my a.1 b c d in
        rw t (ap (λ l. x ∷ l) (i.0 ∙ merged_none (take n xs)), i.1)
    merged_front (x ∷ xs) (y ∷ ys) zero (suc m) (suc k) e nx my a b c d =
        let t = pass x y c.0 d.0 in
        let i = merged_front (x ∷ xs) ys zero m k (omega (arith, e)) nx (omega (arith, my)) a b c.1 d in
        rw t (ap (λ l. y ∷ l) i.0, i.1)
    merged_front (x ∷ xs) (y ∷ ys) (suc n) (suc m) (suc k) e nx my a b c d = elim (cases_Bool (is_lt (cmp y x))) [
      | inl t ↦
          (let i = merged_front (x ∷ xs) ys (suc n) m k (omega (arith, e)) nx (omega (arith, my)) a b c.1 d in
          rw t (ap (λ l. y ∷ l) i.0, i.1))
      | inr t ↦
          (let i = merged_front xs (y ∷ ys) n (suc m) k (omega (arith, e)) (omega (arith, nx)) my a.1 b c d in
          rw t (ap (λ l. x ∷ l) i.0, i.1))
    ]

  module _ (order : IsStrictWeakOrder less) where
    -- y < q, and not x < q: so y < x
    through : (x y q : X) → is_lt (cmp y q) ≡ true → is_lt (cmp x q) ≡ false → is_lt (cmp y x) ≡ true
    through x y q a b = elim (cases_Bool (is_lt (cmp y x))) [
      | inl t ↦ t
      | inr t ↦ (let k = order.chain y x q t b in cc)
    ]

    -- not q < y, and q < x: so y < x
    after : (x y q : X) → is_lt (cmp q y) ≡ false → is_lt (cmp q x) ≡ true → is_lt (cmp y x) ≡ true
    after x y q a b = elim (cases_Bool (is_lt (cmp y x))) [
      | inl t ↦ t
      | inr t ↦ (let k = order.chain q y x a t in cc)
    ]

    -- ---- cuts

    pub cut_merged : (p : X) (ties mid left n m k : ℕ) (xs ys : List X) → k ≡ n + m → left ≤ mid → mid ≤ ties → IsSplitAt cmp p ties xs n mid → IsSplitAt cmp p mid ys m left
        → IsSplitAt cmp p ties (merged cmp xs ys) k left × (drop k (merged cmp xs ys) ≡ merged cmp (drop n xs) (drop m ys))
    cut_merged p ties mid left n m k xs ys e h g cx cy =
        let fronts = split mid cx cy in (
          record {
            within = omega (arith, e, cx.within, cy.within, length_merged xs ys);
            passed = subst (AllByRecursion (λ x. is_lt (cmp p x) ≡ false)) (sym fronts.0) (all_merged cmp (λ x. is_lt (cmp p x) ≡ false) (take n xs) (take m ys) cx.passed cy.passed);
            others = subst (AllByRecursion (λ x. is_lt (cmp x p) ≡ false)) (sym fronts.1) (all_merged cmp (λ x. is_lt (cmp x p) ≡ false) (drop n xs) (drop m ys) cx.others cy.others);
            no_tie = λ none.
                subst (AllByRecursion (λ x. is_lt (cmp x p) ≡ true)) (sym fronts.0)
                (all_merged cmp (λ x. is_lt (cmp x p) ≡ true) (take n xs) (take m ys) (cx.no_tie none) (cy.no_tie (omega (arith, none, g))));
            all_ties = λ some.
                subst (AllByRecursion (λ x. is_lt (cmp p x) ≡ true)) (sym fronts.1)
                (all_merged cmp (λ x. is_lt (cmp p x) ≡ true) (drop n xs) (drop m ys) (cx.all_ties (omega (arith, some, h))) (cy.all_ties some));
          },
          fronts.1,
        )
      where
        split : (mid : ℕ) → IsSplitAt cmp p ties xs n mid → IsSplitAt cmp p mid ys m left
            → (take k (merged cmp xs ys) ≡ merged cmp (take n xs) (take m ys)) × (drop k (merged cmp xs ys) ≡ merged cmp (drop n xs) (drop m ys))
        split zero cx cy =
            merged_front (λ x. is_lt (cmp p x) ≡ false) (λ y. is_lt (cmp y p) ≡ false) (λ y. is_lt (cmp y p) ≡ true) (λ x. is_lt (cmp x p) ≡ false)
            (λ x y a b. order.chain y p x b a) (λ x y a b. through x y p a b) xs ys n m k e cx.within cy.within cx.passed cy.others (cy.no_tie refl) cx.others
        split (suc mid) cx cy =
            merged_front (λ x. is_lt (cmp p x) ≡ false) (λ y. is_lt (cmp y p) ≡ false) (λ y. is_lt (cmp p y) ≡ false) (λ x. is_lt (cmp p x) ≡ true)
            (λ x y a b. order.chain y p x b a) (λ x y a b. after x y p a b) xs ys n m k e cx.within cy.within cx.passed cy.others cy.passed (cx.all_ties (omega arith))
