-- Lists, where one more element comes after them, and lists beside others.
use Rattle.std.proofs.Common.{◌≡◌, ℕ, zero, suc, ◌+◌, ◌<◌, ◌≤◌, Bool, true, false, ◌||◌, List, [], ◌∷◌, ◌++◌, length, get_or, replicate, take, inl, inr, refl, sym, ap, ◌∙◌, arith, add-one}
use Rattle.std.specs.Prelude.{slice_set}
use Rattle.std.specs.List.{AllByRecursion, AllZip, list_any}
use Rattle.std.proofs.lemmas.Bool.{cases_Bool}
use Rattle.std.proofs.lemmas.List.{length-take, take-append-le}
use Rattle.std.proofs.lemmas.List.Folds.{list_any-append}
use Rattle.std.proofs.lemmas.Slice.Zip.{AllZip-long}
use Rattle.std.proofs.Math.Bool.{or-false}
use Rattle.value_rows.proofs.RowLaws.{take-take-le}

pub replicated : {X : Type 0} (n i : ℕ) (x : X) → get_or (replicate n x) i x ≡ x
replicated zero i x = refl
replicated (suc n) zero x = refl
replicated (suc n) (suc i) x = replicated n i x

module _ {X : Type 0} (P : X → Type 0) where
  pub all_front : (xs ys : List X) → AllByRecursion P (xs ++ ys) → AllByRecursion P xs
  all_front [] ys a = tt
  all_front (x ∷ xs) ys a = (a.0, all_front xs ys a.1)

  pub all_behind : (xs ys : List X) → AllByRecursion P (xs ++ ys) → AllByRecursion P ys
  all_behind [] ys a = a
  all_behind (x ∷ xs) ys a = all_behind xs ys a.1

module _ {X : Type 0} (eq : X → X → Bool) (is : (a b : X) → eq a b ≡ true → a ≡ b) (self : (a : X) → eq a a ≡ true) where
  member_more : (xs : List X) (y v : X) → list_any (eq v) (xs ++ y ∷ []) ≡ (list_any (eq v) xs || eq v y)
  member_more xs y v = list_any-append (eq v) xs (y ∷ []) ∙ ap (λ b. list_any (eq v) xs || b) (or-false (eq v y))

  -- one that is there already adds nothing
  pub there_already : (xs : List X) (y v : X) → list_any (eq y) xs ≡ true → list_any (eq v) (xs ++ y ∷ []) ≡ list_any (eq v) xs
  there_already xs y v there = rw (member_more xs y v) (elim (cases_Bool (eq v y)) [
    | inl e ↦ rw (is v y e, there) refl
    | inr e ↦ rw e (or-false (list_any (eq v) xs))
  ])

  pub turned : (a b : X) → eq a b ≡ false → eq b a ≡ false
  turned a b e = elim (cases_Bool (eq b a)) [ inl t ↦ absurd (cc (e, is b a t, self b)) | inr f ↦ f ]

-- ---- a list beside another

pub zip_long : {A B : Type 0} (R : A → B → Type 0) (xs : List A) (ys : List B) → AllZip R xs ys → length xs ≡ length ys
zip_long R xs ys z = sym (AllZip-long R xs ys z)

-- the first elements, of the given count, by one relation, the others by another
abbrev pub ZipFrom : {A B : Type 0} → (A → B → Type 0) → (A → B → Type 0) → ℕ → List A → List B → Type 0
ZipFrom R S zero xs ys = AllZip S xs ys
ZipFrom R S (suc i) [] [] = Unit {0}
ZipFrom R S (suc i) (x ∷ xs) (y ∷ ys) = R x y × ZipFrom R S i xs ys
ZipFrom R S (suc i) xs ys = ⊥

module _ {A B : Type 0} (R S : A → B → Type 0) where
  pub from_long : (xs : List A) (ys : List B) (i : ℕ) → ZipFrom R S i xs ys → length xs ≡ length ys
  from_long xs ys zero z = zip_long S xs ys z
  from_long (x ∷ xs) (y ∷ ys) (suc i) z = ap suc (from_long xs ys i z.1)
  from_long [] [] (suc i) z = refl
  from_long xs ys (suc i) z = absurd z

  pub next_by : (xs : List A) (ys : List B) (i : ℕ) (d : A) (e : B) → ZipFrom R S i xs ys → i < length xs → S (get_or xs i d) (get_or ys i e)
  next_by (x ∷ xs) (y ∷ ys) zero d e z h = z.0
  next_by (x ∷ xs) (y ∷ ys) (suc i) d e z h = next_by xs ys i d e z.1 (omega arith)
  next_by xs ys i d e z h = absurd (omega (arith, from_long xs ys i z))

  one_more : (xs : List A) (ys : List B) (i : ℕ) (d : A) (y : B) → ZipFrom R S i xs ys → i < length xs → R (get_or xs i d) y → ZipFrom R S (suc i) xs (slice_set ys i y)
  one_more (x ∷ xs) (b ∷ ys) zero d y z h r = (r, z.1)
  one_more (x ∷ xs) (b ∷ ys) (suc i) d y z h r = (z.0, one_more xs ys i d y z.1 (omega arith) r)
  one_more xs ys i d y z h r = absurd (omega (arith, from_long xs ys i z))

  pub one_more_by : (xs : List A) (ys : List B) (i : ℕ) (d : A) (y : B) → ZipFrom R S i xs ys → i < length xs → R (get_or xs i d) y → ZipFrom R S (i + 1) xs (slice_set ys i y)
  one_more_by xs ys i d y z h r = rw add-one (one_more xs ys i d y z h r)

  pub all_by : (xs : List A) (ys : List B) (i : ℕ) → ZipFrom R S i xs ys → length xs ≤ i → AllZip R xs ys
  all_by [] [] i z h = tt
  all_by (x ∷ xs) (y ∷ ys) (suc i) z h = (z.0, all_by xs ys i z.1 (omega arith))
  all_by xs ys i z h = absurd (omega (arith, from_long xs ys i z))

-- ---- lists that begin with another

pub front_more : {X : Type 0} (xs ys : List X) (x : X) → take (length xs) ys ≡ xs → take (length xs) (ys ++ x ∷ []) ≡ xs
front_more xs ys x front = take-append-le (length xs) ys (x ∷ []) (omega (arith, ap length front, length-take (length xs) ys)) ∙ front

pub front_of_front : {X : Type 0} (xs ys zs : List X) → take (length xs) ys ≡ xs → take (length ys) zs ≡ ys → take (length xs) zs ≡ xs
front_of_front xs ys zs front more =
    sym (take-take-le (length xs) (length ys) zs (omega (arith, ap length front, length-take (length xs) ys))) ∙ ap (take (length xs)) more ∙ front
