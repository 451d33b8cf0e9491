-- Rows in groups.
use Rattle.std.proofs.Common.{◌≡◌, ◌↔◌, inl, inr, ℕ, suc, Bool, true, false, not, ◌||◌, List, [], ◌∷◌, ◌++◌, map, refl, sym, ap, ◌∙◌, subst, arith}
use Rattle.std.specs.List.{AllByRecursion, Any, Contains, IsDistinct, filter, flat_map, list_any}
use Rattle.std.specs.List.Sorted.{IsPermutation}
use Rattle.std.proofs.lemmas.Bool.{and_parts, cases_Bool, false≢true}
use Rattle.std.proofs.lemmas.List.{map-append}
use Rattle.std.proofs.lemmas.List.Elements.{filter-append}
use Rattle.std.proofs.lemmas.List.Folds.{list_any-from_Any}
use Rattle.std.proofs.lemmas.List.Sorted.{IsPermutation-append, IsPermutation-filter_both, IsPermutation-refl, IsPermutation-trans}
use Rattle.cell_types.specs.Value.{CellValue, value_eq}
use Rattle.odata_query.specs.FirstSeen.{first_seen}
use Rattle.cell_types.proofs.ListLaws.{AllByRecursion-filter}
use Rattle.query_meaning.specs.Apply.{group_values, rows_of_group, same_values, values_at}
use Rattle.query_meaning.proofs.FilterLemmas.{first_or_later, from_filter, here, into_filter, later, none_in}

-- ---- lists without what was there before

module _ {X : Type 0} (eq : X → X → Bool) where
  distinct_filter : (p : X → Bool) (zs : List X) → IsDistinct eq zs → IsDistinct eq (filter p zs)
  unfolding IsDistinct
  distinct_filter p [] d = d
  distinct_filter p (z ∷ zs) d = elim (cases_Bool (p z)) [
    | inl e ↦ rw e (AllByRecursion-filter (λ y. eq z y ≡ false) p zs d.0, distinct_filter p zs d.1)
    | inr e ↦ rw e (distinct_filter p zs d.1)
  ]

  all_others : (x : X) (zs : List X) → AllByRecursion (λ y. eq x y ≡ false) (filter (λ z. not (eq x z)) zs)
  all_others x [] = tt
  all_others x (z ∷ zs) = elim (cases_Bool (eq x z)) [ inl e ↦ rw e (all_others x zs) | inr e ↦ rw e (e, all_others x zs) ]

  first_distinct : (xs : List X) → IsDistinct eq (first_seen eq xs)
  unfolding IsDistinct
  first_distinct [] = tt
  first_distinct (x ∷ xs) = (all_others x (first_seen eq xs), distinct_filter (λ z. not (eq x z)) (first_seen eq xs) (first_distinct xs))

  module _ (is : (a b : X) → eq a b ≡ true → a ≡ b) where
    seen : (xs : List X) (x : X) → Contains xs x → Contains (first_seen eq xs) x
    seen [] x h = absurd (none_in x h)
    seen (y ∷ ys) x h = elim (first_or_later y x ys h) [
      | inl same ↦ subst (Contains (first_seen eq (y ∷ ys))) same (here y (filter (λ z. not (eq y z)) (first_seen eq ys)))
      | inr back ↦ elim (cases_Bool (eq y x)) [
        | inl e ↦ subst (Contains (first_seen eq (y ∷ ys))) (is y x e) (here y (filter (λ z. not (eq y z)) (first_seen eq ys)))
        | inr e ↦ later y x (filter (λ z. not (eq y z)) (first_seen eq ys)) (into_filter (λ z. not (eq y z)) (first_seen eq ys) x (ap not e) (seen ys x back))
      ]
    ]

  seen_before : (xs : List X) (x : X) → Contains (first_seen eq xs) x → Contains xs x
  seen_before [] x h = h
  seen_before (y ∷ ys) x h = elim (first_or_later y x (filter (λ z. not (eq y z)) (first_seen eq ys)) h) [
    | inl same ↦ subst (Contains (y ∷ ys)) same (here y ys)
    | inr back ↦ later y x ys (seen_before ys x (from_filter (λ z. not (eq y z)) (first_seen eq ys) x back).0)
  ]

-- what is seen first of a list begins what is seen first of that list and more
module _ {X : Type 0} (eq : X → X → Bool) where
  first_begins : (xs ys : List X) → (later : List X) × (first_seen eq (xs ++ ys) ≡ first_seen eq xs ++ later)
  first_begins [] ys = (first_seen eq ys, refl)
  first_begins (x ∷ xs) ys =
      let more = first_begins xs ys in (
        filter (λ z. not (eq x z)) more.0,
        ap (λ zs. x ∷ filter (λ z. not (eq x z)) zs) more.1 ∙ ap (λ zs. x ∷ zs) (filter-append (λ z. not (eq x z)) (first_seen eq xs) more.0),
      )

-- ---- elements by their keys

module _ {X K : Type 0} (eq : K → K → Bool) (is : (a b : K) → eq a b ≡ true → a ≡ b) (self : (a : K) → eq a a ≡ true) (key : X → K) where
  abbrev of : K → X → Bool
  of k x = eq k (key x)

  abbrev others : K → X → Bool
  others k x = not (eq k (key x))

  -- an element with one of two keys is not one with the other
  only_one : (k l : K) (x : X) → eq k l ≡ false → eq k (key x) ≡ true → eq l (key x) ≡ false
  only_one k l x e t = elim (cases_Bool (eq l (key x))) [
    | inl u ↦ (let a : k ≡ key x = is k (key x) t in let b : l ≡ key x = is l (key x) u in let same : k ≡ l = cc in
        absurd (false≢true (sym e ∙ subst (λ m. eq k m ≡ true) same (self k))))
    | inr u ↦ u
  ]

  apart : (k l : K) (xs : List X) → eq k l ≡ false → filter (of l) (filter (others k) xs) ≡ filter (of l) xs
  apart k l [] e = refl
  apart k l (x ∷ xs) e = elim (cases_Bool (eq k (key x))) [
    | inl t ↦ (let other = only_one k l x e t in rw (t, other) (apart k l xs e))
    | inr f ↦ rw (f, apart k l xs e) refl
  ]

  all_apart : (k : K) (ls : List K) (xs : List X) → AllByRecursion (λ l. eq k l ≡ false) ls
      → flat_map (λ l. filter (of l) (filter (others k) xs)) ls ≡ flat_map (λ l. filter (of l) xs) ls
  all_apart k [] xs a = refl
  all_apart k (l ∷ ls) xs a = rw (apart k l xs a.0, all_apart k ls xs a.1) refl

  abbrev HaveKeys : List K → List X → Type 0
  HaveKeys ks xs = (x : X) → Contains xs x → list_any (λ k. of k x) ks ≡ true

  fewer_keys : (k : K) (ks : List K) (xs : List X) → HaveKeys (k ∷ ks) xs → HaveKeys ks (filter (others k) xs)
  fewer_keys k ks xs have x h =
      let from = from_filter (others k) xs x h in
      elim (cases_Bool (eq k (key x))) [
        | inl t ↦ absurd (false≢true (sym (ap not t) ∙ from.1))
        | inr f ↦ sym (ap (λ b. b || list_any (λ l. of l x) ks) f) ∙ have x from.0
      ]

  -- elements whose keys are among distinct ones are, key for key, the same elements
  by_keys : (ks : List K) (xs : List X) → IsDistinct eq ks → HaveKeys ks xs → IsPermutation xs (flat_map (λ k. filter (of k) xs) ks)
  unfolding IsDistinct
  by_keys [] [] d have = IsPermutation-refl []
  by_keys [] (x ∷ xs) d have = absurd (false≢true (have x (here x xs)))
  by_keys (k ∷ ks) xs d have =
      let mine = filter (of k) xs in
      let left = filter (others k) xs in
      let rest : IsPermutation left (flat_map (λ l. filter (of l) xs) ks) =
      subst (IsPermutation left) (all_apart k ks xs d.0) (by_keys ks left d.1 (fewer_keys k ks xs have)) in
      IsPermutation-trans xs (mine ++ left) (mine ++ flat_map (λ l. filter (of l) xs) ks) (IsPermutation-filter_both (of k) (others k) (λ x. refl) xs)
      (IsPermutation-append mine mine left (flat_map (λ l. filter (of l) xs) ks) (IsPermutation-refl mine) rest)

module _ {X Y : Type 0} (f : X → Y) where
  pub map_into : (xs : List X) (x : X) → Contains xs x → Contains (map f xs) (f x)
  map_into [] x h = absurd (none_in x h)
  map_into (y ∷ ys) x h = elim (first_or_later y x ys h) [
    | inl same ↦ subst (λ (z : X). Contains (f y ∷ map f ys) (f z)) same (here (f y) (map f ys))
    | inr back ↦ later (f y) (f x) (map f ys) (map_into ys x back)
  ]

  pub map_from : (xs : List X) (v : Y) → Contains (map f xs) v → Any (λ x. f x ≡ v) xs
  map_from [] v h = absurd (none_in v h)
  map_from (x ∷ xs) v h = elim (first_or_later (f x) v (map f xs) h) [
    | inl same ↦ (0, x, omega arith, refl, same)
    | inr back ↦ (let m = map_from xs v back in (suc m.0, m.1, omega (arith, m.2), m.3, m.4))
  ]

-- ---- groups

module _ (equal : (a b : CellValue) → (value_eq a b ≡ true) ↔ (a ≡ b)) where
  same_is : (a b : List CellValue) → same_values a b ≡ true → a ≡ b
  same_is [] [] e = refl
  same_is [] (y ∷ ys) e = absurd (false≢true e)
  same_is (x ∷ xs) [] e = absurd (false≢true e)
  same_is (x ∷ xs) (y ∷ ys) e =
      let head : x ≡ y = (equal x y).0 (and_parts (value_eq x y) (same_values xs ys) e).0 in
      let tail : xs ≡ ys = same_is xs ys (and_parts (value_eq x y) (same_values xs ys) e).1 in
      cc

  same_self : (a : List CellValue) → same_values a a ≡ true
  same_self [] = refl
  same_self (x ∷ xs) = rw ((equal x x).1 refl) (same_self xs)

  pub distinct : (places : List ℕ) (rows : List (List CellValue)) → IsDistinct same_values (group_values places rows)
  distinct places rows = first_distinct same_values (map (values_at places) rows)

  pub grouped : (places : List ℕ) (rows : List (List CellValue)) (row : List CellValue) → Contains rows row → Contains (group_values places rows) (values_at places row)
  grouped places rows row h = seen same_values same_is (map (values_at places) rows) (values_at places row) (map_into (values_at places) rows row h)

  pub filled : (places : List ℕ) (rows : List (List CellValue)) (values : List CellValue) → Contains (group_values places rows) values
      → Any (λ row. values_at places row ≡ values) rows
  filled places rows values h = map_from (values_at places) rows values (seen_before same_values (map (values_at places) rows) values h)

  pub members : (places : List ℕ) (rows : List (List CellValue)) (values row : List CellValue)
      → Contains (rows_of_group places rows values) row ↔ (Contains rows row × (values ≡ values_at places row))
  members places rows values row = (
    λ h. let found = from_filter (λ r. same_values values (values_at places r)) rows row h in (found.0, same_is values (values_at places row) found.1),
    λ h. into_filter (λ r. same_values values (values_at places r)) rows row (subst (λ (v : List CellValue). same_values values v ≡ true) h.1 (same_self values)) h.0,
  )

  pub alone : (places : List ℕ) (row : List CellValue) → rows_of_group places (row ∷ []) (values_at places row) ≡ row ∷ []
  alone places row = rw (same_self (values_at places row)) refl

  pub one : (places : List ℕ) (rows : List (List CellValue)) → IsPermutation rows (flat_map (rows_of_group places rows) (group_values places rows))
  one places rows =
      by_keys same_values same_is same_self (values_at places) (group_values places rows) rows (distinct places rows)
      (λ row h. list_any-from_Any (λ k. same_values k (values_at places row)) (group_values places rows) (found places rows row (grouped places rows row h)))
    where
      found : (places : List ℕ) (rows : List (List CellValue)) (row : List CellValue) → Contains (group_values places rows) (values_at places row)
          → Any (λ k. same_values k (values_at places row) ≡ true) (group_values places rows)
      found places rows row (k, h, e) = (k, values_at places row, h, e, same_self (values_at places row))

pub parts : (places : List ℕ) (front back : List (List CellValue)) (values : List CellValue)
    → rows_of_group places (front ++ back) values ≡ rows_of_group places front values ++ rows_of_group places back values
parts places front back values = filter-append (λ row. same_values values (values_at places row)) front back

pub first : (places : List ℕ) (front back : List (List CellValue)) → (later : List (List CellValue)) × (group_values places (front ++ back) ≡ group_values places front ++ later)
first places front back =
    let begun = first_begins same_values (map (values_at places) front) (map (values_at places) back) in
    (begun.0, ap (first_seen same_values) (map-append (values_at places) front back) ∙ begun.1)
