-- Places by hashes: how a place is found from the last one of its hash.
use Rattle.std.proofs.Common.{◌≡◌, ◌⊎◌, ℕ, ◌<◌, ◌≤◌, Bool, true, false, cond, nat_eq, List, [], ◌∷◌, ◌++◌, length, Option, Some, None, refl, sym, ap, subst, ◌∙◌, inl, inr, arith, length-append}
use Rattle.std.proofs.Math.Seq.{get_or-append_seam}
use Rattle.std.specs.Prelude.{unwrap_or}
use Rattle.std.specs.List.{slice_get}
use Rattle.std.proofs.lemmas.Bool.{cases_order}
use Rattle.std.proofs.lemmas.List.{get_or_append_left}
use Rattle.std.proofs.lemmas.Option.{none-some, same_Some, slice_get-get_or, slice_get_within}
use Rattle.insertion_map.proofs.ListLaws.{pushed-cases, pushed-old}
use Rattle.insertion_map.specs.LastPlaces.{LastOf, last_of}
use Rattle.insertion_map.specs.Hashes.{before_at, AreLinked, ArePlaces, HasLast, IsFoundFrom, IsFoundOf, MayFindPlace, MayFindFrom, PlacesOf}

-- ---- one element more
pushed-last : {X : Type 0} (xs : List X) (y : X) (i : ℕ) → i ≡ length xs → slice_get (xs ++ y ∷ []) i ≡ Some y
pushed-last xs y i e = ap (slice_get (xs ++ y ∷ [])) e ∙ slice_get-get_or (xs ++ y ∷ []) (length xs) y (omega (arith, length-append xs (y ∷ []))) ∙ ap (λ x. Some x) (get_or-append_seam xs y [] y)

-- ---- from a place to those before it
module _ (tests : ℕ → Type 0) (before : List ℕ) (place : ℕ) (may : MayFindFrom tests before place) where
  pub inside : place < length before
  inside = omega (arith, may.linked.long, slice_get_within may.hashes place may.hash may.here)

  pub tested : tests place
  tested = may.each place may.here (omega arith)

  pub find-before : before_at before place < place → MayFindFrom tests before (before_at before place)
  find-before less = record {
    hashes = may.hashes;
    hash = may.hash;
    linked = may.linked;
    here = may.linked.same place may.hash may.here less;
    each = λ p at most. may.each p at (omega arith);
  }

module _ (tells : ℕ → Bool → Type 0) (before : List ℕ) (place : ℕ) where
  pub found-here : tells place true → IsFoundFrom tells before place (Some place)
  found-here is = record {
    some = λ p e hashes hash linked here. let same : place ≡ p = same_Some place p e in (subst (λ q. slice_get hashes q ≡ Some hash) same here, subst (λ q. tells q true) same is);
    none = λ e. absurd (none-some place (sym e));
  }

  module _ (other : tells place false) where
    -- a place elsewhere that has its hash
    later : (hashes : List ℕ) (hash : ℕ) → AreLinked hashes before → slice_get hashes place ≡ Some hash → (p : ℕ) → slice_get hashes p ≡ Some hash → p ≤ place
        → (p ≡ place) ⊎ ((before_at before place < place) × (p ≤ before_at before place))
    later hashes hash linked here p at most = elim (cases_order p place) [
      | inl same ↦ inl same
      | inr (inl less) ↦ inr (linked.nearest place p hash here at less)
      | inr (inr more) ↦ absurd (omega arith)
    ]

    pub found-before : (found : Option ℕ) → before_at before place < place → IsFoundFrom tells before (before_at before place) found → IsFoundFrom tells before place found
    found-before found less is = record {
      some = λ p e hashes hash linked here. is.some p e hashes hash linked (linked.same place hash here less);
      none = λ e hashes hash linked here p at most. elim (later hashes hash linked here p at most) [
        | inl same ↦ subst (λ q. tells q false) (sym same) other
        | inr before ↦ is.none e hashes hash linked (linked.same place hash here less) p at before.1
      ];
    }

    pub found-nowhere : place ≤ before_at before place → IsFoundFrom tells before place None
    found-nowhere ends = record {
      some = λ p e. absurd (none-some p e);
      none = λ e hashes hash linked here p at most. elim (later hashes hash linked here p at most) [
        | inl same ↦ subst (λ q. tells q false) (sym same) other
        | inr before ↦ absurd (omega (arith, before.0, ends))
      ];
    }

-- ---- from the last place of a hash
module _ (places : PlacesOf) (hash : ℕ) where
  pub find-last : (tests : ℕ → Type 0) (place : ℕ) → MayFindPlace tests places hash → last_of places.last hash ≡ Some place → MayFindFrom tests places.before place
  find-last tests place may e = record {
    hashes = may.hashes;
    hash = hash;
    linked = may.are.linked;
    here = may.are.lasts.within hash place e;
    each = λ p at most. may.each p at;
  }

  module _ (tells : ℕ → Bool → Type 0) (hashes : List ℕ) (are : ArePlaces places hashes) where
    pub found-last : (before : List ℕ) → before ≡ places.before → (place : ℕ) (found : Option ℕ) → last_of places.last hash ≡ Some place → IsFoundFrom tells before place found
        → IsFoundOf tells hashes hash found
    found-last before same place found e is =
        let linked = subst (AreLinked hashes) (sym same) are.linked in
        record {
          some = λ p some. is.some p some hashes hash linked (are.lasts.within hash place e);
          none = λ none p at.
              let its = are.lasts.each p hash at in
              let same : its.0 ≡ place = same_Some its.0 place (sym its.1 ∙ e) in
              is.none none hashes hash linked (are.lasts.within hash place e) p at (omega (arith, its.2, same));
        }

    pub found-in-none : last_of places.last hash ≡ None → IsFoundOf tells hashes hash None
    found-in-none e = record {
      some = λ p some. absurd (none-some p some);
      none = λ none p at. let its = are.lasts.each p hash at in absurd (none-some its.0 (sym e ∙ its.1));
    }

-- what a test tells of the places of a hash
pub found-by : (P Q : ℕ → Bool → Type 0) (hashes : List ℕ) (hash : ℕ) (found : Option ℕ) → IsFoundOf P hashes hash found → ((p : ℕ) (is : Bool) → P p is → Q p is) → IsFoundOf Q hashes hash found
found-by P Q hashes hash found is f = record {
  some = λ p e. ((is.some p e).0, f p true (is.some p e).1);
  none = λ e p at. f p false (is.none e p at);
}

-- ---- one place more
module _ (places : PlacesOf) (hashes : List ℕ) (are : ArePlaces places hashes) (hash : ℕ) (more : LastOf)
    (updates : (h : ℕ) → last_of more h ≡ cond (nat_eq hash h) (Some (length places.before)) (last_of places.last h)) where
  abbrev n : ℕ
  n = length places.before

  abbrev x : ℕ
  x = unwrap_or (last_of places.last hash) n

  abbrev before-more : List ℕ
  before-more = places.before ++ x ∷ []

  its-own : (h : ℕ) → h ≡ hash → last_of more h ≡ Some n
  its-own h e = let same : nat_eq hash h ≡ true = grind (arith, e) in updates h ∙ ap (λ b. cond b (Some n) (last_of places.last h)) same

  another : (h : ℕ) → (h ≡ hash → ⊥) → last_of more h ≡ last_of places.last h
  another h other = updates h ∙ ap (λ b. cond b (Some n) (last_of places.last h)) (differ h other)
    where
      differ : (h : ℕ) → (h ≡ hash → ⊥) → nat_eq hash h ≡ false
      differ h other = grind (arith, other)

  -- the last place that has the hash
  last-before : (q : ℕ) (o : Option ℕ) → last_of places.last hash ≡ o → slice_get hashes q ≡ Some hash → (unwrap_or o n < n) × (q ≤ unwrap_or o n)
  last-before q None e at = let its = are.lasts.each q hash at in absurd (none-some its.0 (sym e ∙ its.1))
  last-before q (Some p) e at =
      let its = are.lasts.each q hash at in
      let same : its.0 ≡ p = same_Some its.0 p (sym its.1 ∙ e) in
      (omega (arith, are.linked.long, slice_get_within hashes p hash (are.lasts.within hash p e)), omega (arith, its.2, same))

  place-of : (o : Option ℕ) → last_of places.last hash ≡ o → unwrap_or o n < n → slice_get hashes (unwrap_or o n) ≡ Some hash
  place-of None e less = absurd (omega arith)
  place-of (Some p) e less = are.lasts.within hash p e

  here-last : (p : ℕ) → p ≡ length hashes → before_at before-more p ≡ x
  here-last p e = ap (before_at before-more) (e ∙ are.linked.long) ∙ get_or-append_seam places.before x [] 0

  here-old : (p h : ℕ) → slice_get hashes p ≡ Some h → before_at before-more p ≡ before_at places.before p
  here-old p h at = get_or_append_left places.before (x ∷ []) 0 p (omega (arith, are.linked.long, slice_get_within hashes p h at))

  nearest-more : (p q h : ℕ) → q < p → (slice_get hashes p ≡ Some h) ⊎ ((p ≡ length hashes) × (h ≡ hash)) → (slice_get hashes q ≡ Some h) ⊎ ((q ≡ length hashes) × (h ≡ hash))
      → (before_at before-more p < p) × (q ≤ before_at before-more p)
  nearest-more p q h less (inl at) (inl at-q) =
      let old = are.linked.nearest p q h at at-q less in
      let e = here-old p h at in
      (omega (arith, e, old.0), omega (arith, e, old.1))
  nearest-more p q h less (inl at) (inr last) = let within = slice_get_within hashes p h at in absurd (omega (arith, last.0, within, less))
  nearest-more p q h less (inr here) (inl at-q) =
      let old = last-before q (last_of places.last hash) refl (at-q ∙ ap (λ k. Some k) here.1) in
      let e = here-last p here.0 in
      (omega (arith, e, here.0, are.linked.long, old.0), omega (arith, e, old.1))
  nearest-more p q h less (inr here) (inr last) = absurd (omega (arith, here.0, last.0, less))

  same-more : (p h : ℕ) → before_at before-more p < p → (slice_get hashes p ≡ Some h) ⊎ ((p ≡ length hashes) × (h ≡ hash)) → slice_get (hashes ++ hash ∷ []) (before_at before-more p) ≡ Some h
  same-more p h less (inl at) =
      let e = here-old p h at in
      ap (slice_get (hashes ++ hash ∷ [])) e ∙ pushed-old hashes hash (before_at places.before p) h (are.linked.same p h at (omega (arith, e, less)))
  same-more p h less (inr here) =
      let e = here-last p here.0 in
      let old = place-of (last_of places.last hash) refl (omega (arith, e, here.0, are.linked.long, less)) in
      ap (slice_get (hashes ++ hash ∷ [])) e ∙ pushed-old hashes hash x hash old ∙ ap (λ k. Some k) (sym here.1)

  each-more : (q h : ℕ) → (slice_get hashes q ≡ Some h) ⊎ ((q ≡ length hashes) × (h ≡ hash)) → (p : ℕ) × (last_of more h ≡ Some p) × (q ≤ p)
  each-more q h (inr here) = (n, its-own h here.1, omega (arith, here.0, are.linked.long))
  each-more q h (inl at) =
      let within = slice_get_within hashes q h at in
      let old = are.lasts.each q h at in
      elim (cases_order h hash) [
        | inl same ↦ (n, its-own h same, omega (arith, within, are.linked.long))
        | inr (inl less) ↦ (old.0, another h (λ e. omega (arith, e, less)) ∙ old.1, old.2)
        | inr (inr more) ↦ (old.0, another h (λ e. omega (arith, e, more)) ∙ old.1, old.2)
      ]

  within-old : (h p : ℕ) → (h ≡ hash → ⊥) → last_of more h ≡ Some p → slice_get (hashes ++ hash ∷ []) p ≡ Some h
  within-old h p other e = pushed-old hashes hash p h (are.lasts.within h p (sym (another h other) ∙ e))

  within-more : (h p : ℕ) → last_of more h ≡ Some p → slice_get (hashes ++ hash ∷ []) p ≡ Some h
  within-more h p e = elim (cases_order h hash) [
    | inl same ↦
        let last : n ≡ p = same_Some n p (sym (its-own h same) ∙ e) in
        pushed-last hashes hash p (sym last ∙ sym are.linked.long) ∙ ap (λ k. Some k) (sym same)
    | inr (inl less) ↦ within-old h p (λ e. omega (arith, e, less)) e
    | inr (inr more) ↦ within-old h p (λ e. omega (arith, e, more)) e
  ]

  pub one-more : (new : PlacesOf) → new.last ≡ more → new.before ≡ before-more → ArePlaces new (hashes ++ hash ∷ [])
  one-more new last before = record {
    linked = subst (AreLinked (hashes ++ hash ∷ [])) (sym before) (record {
      long = omega (arith, are.linked.long, length-append hashes (hash ∷ []), length-append places.before (x ∷ []));
      nearest = λ p q h at at-q less. nearest-more p q h less (pushed-cases hashes hash p h at) (pushed-cases hashes hash q h at-q);
      same = λ p h at less. same-more p h less (pushed-cases hashes hash p h at);
    });
    lasts = subst (HasLast (hashes ++ hash ∷ [])) (sym last) (record { each = λ q h at. each-more q h (pushed-cases hashes hash q h at); within = within-more });
  }

-- what has the same places has the same hashes
pub same-places : (old new : PlacesOf) (hashes : List ℕ) → ((h : ℕ) → last_of new.last h ≡ last_of old.last h) → new.before ≡ old.before → ArePlaces old hashes → ArePlaces new hashes
same-places old new hashes last before are = record {
  linked = subst (AreLinked hashes) (sym before) are.linked;
  lasts = record {
    each = λ q h at. let its = are.lasts.each q h at in (its.0, last h ∙ its.1, its.2);
    within = λ h p e. are.lasts.within h p (sym (last h) ∙ e);
  };
}

-- no places
pub no-places : (places : PlacesOf) → ((h : ℕ) → last_of places.last h ≡ None) → places.before ≡ [] → ArePlaces places []
no-places places last before = record {
  linked = subst (AreLinked []) (sym before) (record {
    long = refl;
    nearest = λ p q h at at-q less. absurd (none-some h at);
    same = λ p h at less. absurd (none-some h at);
  });
  lasts = record { each = λ q h at. absurd (none-some h at); within = λ h p e. absurd (none-some p (sym (last h) ∙ e)) };
}
