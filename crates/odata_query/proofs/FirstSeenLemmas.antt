-- One more element after others: it is new where no earlier one equals it.
use Rattle.std.proofs.Common.{ℕ, ◌+◌, ◌<◌, length, take, get_or, nat_eq, ◌≡◌, Bool, true, false, not, ◌||◌, List, [], ◌∷◌, ◌++◌, inl, inr, refl, ap, sym, ◌∙◌}
use Rattle.std.proofs.lemmas.Bool.{cases_Bool}
use Rattle.std.proofs.lemmas.Cmp.{nat_eq_equiv}
use Rattle.std.proofs.lemmas.List.Elements.{filter-append}
use Rattle.std.proofs.lemmas.List.{append-nil, take_more}
use Rattle.std.specs.Cmp.{IsEquivalence}
use Rattle.std.specs.List.{filter, list_any}
use Rattle.odata_query.specs.FirstSeen.{first_seen}

module _ {X : Type 0} (eq : X → X → Bool) (laws : IsEquivalence eq) where
  -- one of the elements equals it
  abbrev is_in : X → List X → Bool
  is_in x zs = list_any (λ z. eq z x) zs

  -- the elements that another one does not equal
  abbrev others : X → List X → List X
  others y zs = filter (λ z. not (eq y z)) zs

  differs : (y z x : X) → eq y x ≡ false → eq y z ≡ true → eq z x ≡ false
  differs y z x n e = sym (laws.congr y z x e) ∙ n

  in_others : (y x : X) (zs : List X) → eq y x ≡ false → is_in x (others y zs) ≡ is_in x zs
  in_others y x [] n = refl
  in_others y x (z ∷ zs) n =
      elim (cases_Bool (eq y z)) [
        | inl e ↦ rw (e, differs y z x n e) (in_others y x zs n)
        | inr e ↦ rw e (ap (λ b. eq z x || b) (in_others y x zs n))
      ]

  pub pushed : (xs : List X) (x : X)
      → (is_in x (first_seen eq xs) ≡ true → first_seen eq (xs ++ x ∷ []) ≡ first_seen eq xs)
      × (is_in x (first_seen eq xs) ≡ false → first_seen eq (xs ++ x ∷ []) ≡ first_seen eq xs ++ x ∷ [])
  pushed [] x = ((λ h. (cc)), (λ h. refl))
  pushed (y ∷ ys) x =
      elim (cases_Bool (eq y x)) [
        | inl e ↦ (
          (λ h. elim (cases_Bool (is_in x (first_seen eq ys))) [
            | inl a ↦ ap (λ l. y ∷ others y l) ((pushed ys x).0 a)
            | inr a ↦ ap (λ l. y ∷ others y l) ((pushed ys x).1 a) ∙ ap (λ l. y ∷ l) (filter-append _ (first_seen eq ys) (x ∷ []) ∙ rw e (append-nil _))
          ]),
          (λ h. let k = rw e at h in cc),
        )
        | inr n ↦ (
          (λ h. let k = rw (n, in_others y x (first_seen eq ys) n) at h in ap (λ l. y ∷ others y l) ((pushed ys x).0 k)),
          (λ h. let k = rw (n, in_others y x (first_seen eq ys) n) at h in
              ap (λ l. y ∷ others y l) ((pushed ys x).1 k) ∙ ap (λ l. y ∷ l) (filter-append _ (first_seen eq ys) (x ∷ []) ∙ rw n refl)),
        )
      ]

-- the same of the numbers before a place and the one at that place
pub pushed_number : (xs : List ℕ) (i : ℕ) → i < length xs
    → (list_any (λ z. nat_eq z (get_or xs i 0)) (first_seen nat_eq (take i xs)) ≡ true → first_seen nat_eq (take (i + 1) xs) ≡ first_seen nat_eq (take i xs))
    × (list_any (λ z. nat_eq z (get_or xs i 0)) (first_seen nat_eq (take i xs)) ≡ false
    → first_seen nat_eq (take (i + 1) xs) ≡ first_seen nat_eq (take i xs) ++ get_or xs i 0 ∷ [])
pushed_number xs i h = let more = take_more xs i 0 h in rw more (pushed nat_eq nat_eq_equiv (take i xs) (get_or xs i 0))
