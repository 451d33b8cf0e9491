-- The groups of rows, where one row more comes after them.
use Rattle.std.proofs.Common.{◌≡◌, ◌↔◌, ℕ, zero, suc, ◌<◌, Bool, true, false, not, cond, ◌||◌, IsTrue, List, [], ◌∷◌, ◌++◌, length, map, filter, get_or, inl, inr, refl, sym, ap, ◌∙◌, arith}
use Rattle.std.specs.Prelude.{slice_set}
use Rattle.std.specs.Cmp.Lexicographic.{pointwise_decides}
use Rattle.std.specs.List.{AllByRecursion, AllZip, IsDistinct, list_any}
use Rattle.std.proofs.lemmas.Bool.{cases_Bool, or_parts}
use Rattle.std.proofs.lemmas.List.{append-nil, map-append}
use Rattle.std.proofs.lemmas.List.Elements.{All-from_recursion, filter-append}
use Rattle.insertion_map.specs.Places.{insert_key}
use Rattle.cell_types.specs.Value.{CellValue, value_eq}
use Rattle.odata_query.specs.FirstSeen.{first_seen}
use Rattle.query_meaning.specs.Apply.{group_values, rows_of_group, same_values, values_at}
use Rattle.aggregate_rows.proofs.ListLemmas.{turned}

module _ {X : Type 0} (eq : X → X → Bool) (is : (a b : X) → eq a b ≡ true → a ≡ b) (self : (a : X) → eq a a ≡ true) where
  any_filter : (x y : X) (zs : List X) → eq x y ≡ false → list_any (eq y) (filter (λ z. not (eq x z)) zs) ≡ list_any (eq y) zs
  any_filter x y [] e = refl
  any_filter x y (z ∷ zs) e = elim (cases_Bool (eq x z)) [
    | inl t ↦ rw (t, turned eq is self z y (rw (is x z t) at e)) (any_filter x y zs e)
    | inr f ↦ rw (f, any_filter x y zs e) refl
  ]

  -- what is dropped stays dropped
  past : (x y : X) (b : Bool) (zs : List X) → eq x y ≡ true → filter (λ z. not (eq x z)) (cond b zs (zs ++ y ∷ [])) ≡ filter (λ z. not (eq x z)) zs
  past x y true zs e = refl
  past x y false zs e = rw (filter-append (λ z. not (eq x z)) zs (y ∷ []), e) (append-nil (filter (λ z. not (eq x z)) zs))

  kept : (x y : X) (b : Bool) (zs : List X) → eq x y ≡ false
      → filter (λ z. not (eq x z)) (cond b zs (zs ++ y ∷ [])) ≡ cond b (filter (λ z. not (eq x z)) zs) (filter (λ z. not (eq x z)) zs ++ y ∷ [])
  kept x y true zs e = refl
  kept x y false zs e = rw (filter-append (λ z. not (eq x z)) zs (y ∷ []), e) refl

  cons_cond : (x y : X) (b : Bool) (zs : List X) → x ∷ cond b zs (zs ++ y ∷ []) ≡ cond b (x ∷ zs) ((x ∷ zs) ++ y ∷ [])
  cons_cond x y true zs = refl
  cons_cond x y false zs = refl

  -- an element after others is seen first where it is none of them
  pub seen_more : (xs : List X) (y : X) → first_seen eq (xs ++ y ∷ []) ≡ insert_key eq (first_seen eq xs) y
  seen_more [] y = refl
  seen_more (x ∷ xs) y =
      let seen = first_seen eq xs in
      let others = filter (λ z. not (eq x z)) seen in
      let b = list_any (eq y) seen in
      ap (λ zs. x ∷ filter (λ z. not (eq x z)) zs) (seen_more xs y)
      ∙ elim (cases_Bool (eq x y)) as (λ _. x ∷ filter (λ z. not (eq x z)) (cond b seen (seen ++ y ∷ [])) ≡ cond (eq y x || list_any (eq y) others) (x ∷ others) ((x ∷ others) ++ y ∷ [])) [
        | inl t ↦ rw (past x y b seen t, is x y t, self y) refl
        | inr f ↦ rw (kept x y b seen f, turned eq is self x y f, any_filter x y seen f) (cons_cond x y b others)
      ]

  -- what is not seen is not there
  pub unseen : (xs : List X) (y : X) → list_any (eq y) (first_seen eq xs) ≡ false → list_any (eq y) xs ≡ false
  unseen [] y e = refl
  unseen (x ∷ xs) y e =
      let parts = or_parts (eq y x) (list_any (eq y) (filter (λ z. not (eq x z)) (first_seen eq xs))) e in
      rw (parts.0, unseen xs y (sym (any_filter x y (first_seen eq xs) (turned eq is self y x parts.0)) ∙ parts.1)) refl

module _ (equal : (a b : CellValue) → IsTrue (value_eq a b) ↔ (a ≡ b)) (places : List ℕ) where
  decides : (a b : List CellValue) → (same_values a b ≡ true → a ≡ b) × (a ≡ b → same_values a b ≡ true)
  decides = pointwise_decides equal

  pub same_is : (a b : List CellValue) → same_values a b ≡ true → a ≡ b
  same_is a b e = (decides a b).0 e

  pub same_self : (a : List CellValue) → same_values a a ≡ true
  same_self a = (decides a a).1 refl

  no_member : (rs : List (List CellValue)) (v : List CellValue) → list_any (same_values v) (map (values_at places) rs) ≡ false → rows_of_group places rs v ≡ []
  no_member [] v e = refl
  no_member (r ∷ rs) v e =
      let parts = or_parts (same_values v (values_at places r)) (list_any (same_values v) (map (values_at places) rs)) e in
      rw parts.0 (no_member rs v parts.1)

  -- a key that is none of theirs has no rows
  pub no_rows : (rs : List (List CellValue)) (v : List CellValue) → list_any (same_values v) (group_values places rs) ≡ false → rows_of_group places rs v ≡ []
  no_rows rs v none = no_member rs v (unseen same_values same_is same_self (map (values_at places) rs) v none)

  -- one row more, with these values, after some rows
  module _ (some : List (List CellValue)) (row : List CellValue) where
    pub joins : (v : List CellValue) → same_values v (values_at places row) ≡ true → rows_of_group places (some ++ row ∷ []) v ≡ rows_of_group places some v ++ row ∷ []
    joins v e = rw (filter-append (λ r. same_values v (values_at places r)) some (row ∷ []), e) refl

    stays : (v : List CellValue) → same_values v (values_at places row) ≡ false → rows_of_group places (some ++ row ∷ []) v ≡ rows_of_group places some v
    stays v e = rw (filter-append (λ r. same_values v (values_at places r)) some (row ∷ []), e) (append-nil (rows_of_group places some v))

    all_stay : (keys : List (List CellValue)) → AllByRecursion (λ v. same_values v (values_at places row) ≡ false) keys
        → map (rows_of_group places some) keys ≡ map (rows_of_group places (some ++ row ∷ [])) keys
    all_stay [] a = refl
    all_stay (v ∷ vs) a = rw (stays v a.0, all_stay vs a.1) refl

    others : (v : List CellValue) (keys : List (List CellValue)) → v ≡ values_at places row → AllByRecursion (λ w. same_values v w ≡ false) keys
        → AllByRecursion (λ w. same_values w (values_at places row) ≡ false) keys
    others v [] e a = tt
    others v (w ∷ ws) e a = (turned same_values same_is same_self (values_at places row) w (rw e at a.0), others v ws e a.1)

    -- the row joins the group of its values
    module _ {T : Type 0} (R : List (List CellValue) → T → Type 0) where
      pub found_zip : (keys : List (List CellValue)) (ts : List T) (g : ℕ) (t : T) → AllZip R (map (rows_of_group places some) keys) ts
          → IsDistinct same_values keys → g < length keys → get_or keys g [] ≡ values_at places row → R (rows_of_group places some (values_at places row) ++ row ∷ []) t
          → AllZip R (map (rows_of_group places (some ++ row ∷ [])) keys) (slice_set ts g t)
      unfolding IsDistinct
      found_zip [] ts g t z d h is r = absurd (omega arith)
      found_zip (v ∷ vs) [] g t z d h is r = absurd z
      found_zip (v ∷ vs) (u ∷ ts) zero t z d h is r =
          (rw (joins v (rw (← is) (same_self v)), is) r, rw (← (all_stay vs (others v vs is d.0))) z.1)
      found_zip (v ∷ vs) (u ∷ ts) (suc g) t z d h is r =
          let other : same_values v (values_at places row) ≡ false = rw (← is) (All-from_recursion (λ w. same_values v w ≡ false) vs d.0 g [] (omega arith)) in
          (rw (stays v other) z.0, found_zip vs ts g t z.1 d.1 (omega arith) is r)

    pub more_values : group_values places (some ++ row ∷ []) ≡ insert_key same_values (group_values places some) (values_at places row)
    more_values =
        ap (first_seen same_values) (map-append (values_at places) some (row ∷ []))
        ∙ seen_more same_values same_is same_self (map (values_at places) some) (values_at places row)
