-- Sums of numbers, where one more comes before them, and that they fit.
use Rattle.std.proofs.Common.{◌≡◌, ℕ, ℤ, pos, suc, ◌-◌, ◌+◌, ◌*◌, ◌<◌, ◌≤◌, ◌+ℤ◌, Option, Some, None, List, [], ◌∷◌, ◌++◌, length, map, take, drop, get_or, FitsSigned, refl, ap, subst, ◌∙◌, arith}
use Rattle.std.specs.Prelude.{unsigned_abs}
use Rattle.std.specs.Int.{w128}
use Rattle.std.specs.List.{AllByRecursion, cons_option, filter_map}
use Rattle.std.proofs.Math.Nat.{mul-le-mul_left, mul-suc}
use Rattle.std.proofs.Math.Seq.{drop-cons}
use Rattle.std.proofs.lemmas.Int.{ints, fits_signed_from_abs}
use Rattle.std.proofs.lemmas.List.{append-nil, take-append-drop}
use Rattle.std.proofs.lemmas.List.Elements.{filter_map-append, recursion_from_All}
use Rattle.cell_types.proofs.ListLaws.{length-filter_map-le}
use Rattle.query_meaning.specs.Apply.{integer_sum}
use Rattle.query_meaning.specs.Fitting.{AreSummable}
use Rattle.aggregate_rows.specs.Sums.{sum_of, sums_joined, FitSums}
use Rattle.aggregate_rows.proofs.FitLemmas.{rest_fit}

-- ---- sums fit

bounded : (bound : ℕ) (ns : List ℤ) → AllByRecursion (λ n. unsigned_abs n ≤ bound) ns → unsigned_abs (integer_sum ns) ≤ bound * length ns
bounded bound [] a = omega arith
bounded bound (n ∷ ns) a =
    let t : unsigned_abs (n +ℤ integer_sum ns) ≤ unsigned_abs n + unsigned_abs (integer_sum ns) = omega (arith, ints) in
    let more = bounded bound ns a.1 in
    let first = a.0 in
    let e : bound * suc (length ns) ≡ bound * length ns + bound = mul-suc bound (length ns) in
    omega arith

-- the sum of the numbers of some rows fits
sum_fits : {X : Type 0} (f : X → Option ℤ) (xs : List X) → AreSummable (filter_map f xs) (length xs) → FitsSigned w128 (integer_sum (filter_map f xs))
sum_fits f xs fit =
    let numbers = filter_map f xs in
    let some = bounded fit.bound numbers (recursion_from_All (λ n. unsigned_abs n ≤ fit.bound) numbers fit.each) in
    let most = mul-le-mul_left fit.bound (length-filter_map-le f xs) in
    let small = fit.small in
    fits_signed_from_abs w128 (integer_sum numbers) (omega arith)

-- ---- the sum of some numbers and of more

sum_append : (ns ms : List ℤ) → integer_sum (ns ++ ms) ≡ integer_sum ns +ℤ integer_sum ms
sum_append [] ms = omega (arith, ints)
sum_append (n ∷ ns) ms = rw (sum_append ns ms) (omega (arith, ints))

some_append : (ns ms : List ℤ) → sum_of (ns ++ ms) ≡ sums_joined (sum_of ns) (sum_of ms)
some_append [] ms = refl
some_append (n ∷ ns) [] = ap sum_of (append-nil (n ∷ ns))
some_append (n ∷ ns) (m ∷ ms) = ap Some (sum_append (n ∷ ns) (m ∷ ms))

fit_append : (ns ms : List ℤ) → FitsSigned w128 (integer_sum (ns ++ ms)) → FitSums (sum_of ns) (sum_of ms)
fit_append [] ms fit = tt
fit_append (n ∷ ns) [] fit = tt
fit_append (n ∷ ns) (m ∷ ms) fit = subst (FitsSigned w128) (sum_append (n ∷ ns) (m ∷ ms)) fit

module _ {X : Type 0} (f : X → Option ℤ) (xs ys : List X) where
  pub sums_join : sum_of (filter_map f (xs ++ ys)) ≡ sums_joined (sum_of (filter_map f xs)) (sum_of (filter_map f ys))
  sums_join = ap sum_of (filter_map-append f xs ys) ∙ some_append (filter_map f xs) (filter_map f ys)

  pub sums_fit : AreSummable (filter_map f (xs ++ ys)) (length (xs ++ ys)) → FitSums (sum_of (filter_map f xs)) (sum_of (filter_map f ys))
  sums_fit fit =
      fit_append (filter_map f xs) (filter_map f ys)
      (subst (λ ns. FitsSigned w128 (integer_sum ns)) (filter_map-append f xs ys) (sum_fits f (xs ++ ys) fit))

-- ---- the sum of some last numbers of a list, where one more comes before them

-- elements that are read by a place each
pub read_over : {X Y : Type 0} (f : X → Option ℤ) (h : Y → X) (ys : List Y) → filter_map f (map h ys) ≡ filter_map (λ y. f (h y)) ys
read_over f h [] = refl
read_over f h (y ∷ ys) = ap (cons_option (f (h y))) (read_over f h ys)

alone : (o : Option ℤ) → sum_of (cons_option o []) ≡ o
alone None = refl
alone (Some n) = let same : n +ℤ pos 0 ≡ n = omega (arith, ints) in ap Some same

module _ {X : Type 0} (f : X → Option ℤ) (xs : List X) (i : ℕ) (d : X) (some : 0 < i) (within : i ≤ length xs) where
  one_before : drop (i - 1) xs ≡ get_or xs (i - 1) d ∷ drop i xs
  one_before =
      let next : suc (i - 1) ≡ i = omega arith in
      drop-cons xs (i - 1) d (omega arith) ∙ ap (λ k. get_or xs (i - 1) d ∷ drop k xs) next

  pub joins_before : sum_of (filter_map f (drop (i - 1) xs)) ≡ sums_joined (f (get_or xs (i - 1) d)) (sum_of (filter_map f (drop i xs)))
  joins_before =
      rw one_before (sums_join f (get_or xs (i - 1) d ∷ []) (drop i xs) ∙ ap (λ s. sums_joined s (sum_of (filter_map f (drop i xs)))) (alone (f (get_or xs (i - 1) d))))

  pub fits_before : AreSummable (filter_map f xs) (length xs) → FitSums (f (get_or xs (i - 1) d)) (sum_of (filter_map f (drop i xs)))
  fits_before fit =
      let all : AreSummable (filter_map f (take (i - 1) xs ++ drop (i - 1) xs)) (length (take (i - 1) xs ++ drop (i - 1) xs)) = rw take-append-drop fit in
      rw (alone (f (get_or xs (i - 1) d))) at (sums_fit f (get_or xs (i - 1) d ∷ []) (drop i xs) (rw one_before at (rest_fit f (take (i - 1) xs) (drop (i - 1) xs) all)))
