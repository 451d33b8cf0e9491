-- Elements that come before all others are enough, where they are as many as are looked for.
use Rattle.std.proofs.Common.{◌≡◌, inl, inr, ℕ, zero, suc, ◌≤◌, Bool, true, false, cond, List, [], ◌∷◌, length, filter, take, refl, sym, ap, ◌∙◌, subst, arith}
use Rattle.std.specs.Cmp.{IsStrictWeakOrder}
use Rattle.std.specs.Ordering.{is_lt}
use Rattle.std.specs.declared.cmp.Ordering.{Ordering}
use Rattle.std.proofs.lemmas.Bool.{cases_Bool, false≢true}
use Rattle.query_meaning.specs.Order.{placed, sorted}
use Rattle.sort_rows.proofs.BestLemmas.{in_place}
use Rattle.sort_rows.proofs.StableLemmas.{Leads, Rises}

module _ {X : Type 0} (cmp : X → X → Ordering) (order : IsStrictWeakOrder (λ a b. is_lt (cmp a b))) (p : X → Bool) where
  abbrev less : X → X → Bool
  less a b = is_lt (cmp a b)

  leads_on : (x y : X) (zs : List X) → less y x ≡ false → Leads less order y zs → Leads less order x zs
  leads_on x y [] e up = tt
  leads_on x y (z ∷ zs) e up = (order.chain z y x up.0 e, leads_on x y zs e up.1)

  leads_either : (x y : X) (ys : List X) (b : Bool) → less y x ≡ false → Leads less order x ys → Leads less order x (cond b (y ∷ ys) ys)
  leads_either x y ys true e up = (e, up)
  leads_either x y ys false e up = up

  leads_filtered : (x : X) (ys : List X) → Leads less order x ys → Leads less order x (filter p ys)
  leads_filtered x [] up = tt
  leads_filtered x (y ∷ ys) up = leads_either x y (filter p ys) (p y) up.0 (leads_filtered x ys up.1)

  -- what is kept of an element before others in order
  filter_in_order : (b : Bool) (x : X) (ys : List X) → Leads less order x ys → cond b (x ∷ filter p ys) (filter p ys) ≡ cond b (placed cmp x (filter p ys)) (filter p ys)
  filter_in_order true x ys up = sym (in_place cmp order x (filter p ys) (leads_filtered x ys up))
  filter_in_order false x ys up = refl

  filter_past : (b c : Bool) (x y : X) (rest : List X) → less y x ≡ true
      → cond c (y ∷ cond b (placed cmp x rest) rest) (cond b (placed cmp x rest) rest) ≡ cond b (placed cmp x (cond c (y ∷ rest) rest)) (cond c (y ∷ rest) rest)
  filter_past true true x y rest e = rw e refl
  filter_past true false x y rest e = refl
  filter_past false true x y rest e = refl
  filter_past false false x y rest e = refl

  filter_placed : (x : X) (ys : List X) → Rises less order ys → filter p (placed cmp x ys) ≡ cond (p x) (placed cmp x (filter p ys)) (filter p ys)
  filter_placed x [] up = refl
  filter_placed x (y ∷ ys) up = elim (cases_Bool (less y x)) [
    | inl e ↦
        ap (λ b. filter p (cond b (y ∷ placed cmp x ys) (x ∷ y ∷ ys))) e
        ∙ ap (λ zs. cond (p y) (y ∷ zs) zs) (filter_placed x ys up.1)
        ∙ filter_past (p x) (p y) x y (filter p ys) e
    | inr e ↦
        ap (λ b. filter p (cond b (y ∷ placed cmp x ys) (x ∷ y ∷ ys))) e
        ∙ filter_in_order (p x) x (y ∷ ys) (e, leads_on x y ys e up.0)
  ]

  sorted_either : (b : Bool) (x : X) (ys : List X) → cond b (placed cmp x (sorted cmp ys)) (sorted cmp ys) ≡ sorted cmp (cond b (x ∷ ys) ys)
  sorted_either true x ys = refl
  sorted_either false x ys = refl

  -- what is kept of elements in order is what is kept of them, in order
  filter_sorted : (xs : List X) → ((ys : List X) → Rises less order (sorted cmp ys)) → filter p (sorted cmp xs) ≡ sorted cmp (filter p xs)
  filter_sorted [] up = refl
  filter_sorted (x ∷ xs) up =
      filter_placed x (sorted cmp xs) (up xs)
      ∙ ap (λ zs. cond (p x) (placed cmp x zs) zs) (filter_sorted xs up)
      ∙ sorted_either (p x) x (filter p xs)

  long_placed : (x : X) (ys : List X) → length (placed cmp x ys) ≡ suc (length ys)
  long_placed x [] = refl
  long_placed x (y ∷ ys) = elim (cases_Bool (less y x)) [ inl e ↦ rw e (ap suc (long_placed x ys)) | inr e ↦ rw e refl ]

  long_sorted : (ys : List X) → length (sorted cmp ys) ≡ length ys
  long_sorted [] = refl
  long_sorted (y ∷ ys) = long_placed y (sorted cmp ys) ∙ ap suc (long_sorted ys)

  module _ (apart : (a b : X) → p a ≡ true → p b ≡ false → less a b ≡ true) where
    none_behind : (x : X) (ys : List X) → p x ≡ false → Leads less order x ys → filter p ys ≡ []
    none_behind x [] e up = refl
    none_behind x (y ∷ ys) e up = elim (cases_Bool (p y)) [
      | inl f ↦ absurd (false≢true (sym up.0 ∙ apart y x f e))
      | inr f ↦ ap (λ b. cond b (y ∷ filter p ys) (filter p ys)) f ∙ none_behind x ys e up.1
    ]

    first_kept : (k : ℕ) (zs : List X) → Rises less order zs → k ≤ length (filter p zs) → take k (filter p zs) ≡ take k zs
    first_kept zero zs up enough = refl
    first_kept (suc k) [] up enough = refl
    first_kept (suc k) (z ∷ zs) up enough = elim (cases_Bool (p z)) [
      | inl e ↦
          (let long : suc k ≤ length (z ∷ filter p zs) = subst (λ b. suc k ≤ length (cond b (z ∷ filter p zs) (filter p zs))) e enough in
          ap (λ b. take (suc k) (cond b (z ∷ filter p zs) (filter p zs))) e ∙ ap (λ l. z ∷ l) (first_kept k zs up.1 (omega (arith, long))))
      | inr e ↦
          (let none : filter p (z ∷ zs) ≡ [] = ap (λ b. cond b (z ∷ filter p zs) (filter p zs)) e ∙ none_behind z zs e up.0 in
          let long : suc k ≤ 0 = subst (λ l. suc k ≤ length l) none enough in absurd (omega (arith, long)))
    ]

    pub near_are_enough : (k : ℕ) (xs : List X) → ((ys : List X) → Rises less order (sorted cmp ys)) → k ≤ length (filter p xs)
        → take k (sorted cmp (filter p xs)) ≡ take k (sorted cmp xs)
    near_are_enough k xs up enough =
        let same = filter_sorted xs up in
        let long : length (filter p (sorted cmp xs)) ≡ length (filter p xs) = ap length same ∙ long_sorted (filter p xs) in
        ap (take k) (sym same) ∙ first_kept k (sorted cmp xs) (up xs) (omega (arith, enough, long))
