-- The least and the greatest number of the rows so far, where nulls are passed.
use Rattle.std.proofs.Common.{◌≡◌, ◌⊎◌, inl, inr, ℕ, ◌+◌, ◌<◌, Bool, true, false, cond, List, Option, None, Some, length, get_or, refl, sym, ap, ◌∙◌, subst, arith, below_more}
use Rattle.std.specs.Prelude.{ℤ, pos, negsuc, ◌≤ℤ◌, ◌<ℤ◌}
use Rattle.std.specs.Int.{int_max, int_min}
use Rattle.std.specs.Prelude.{int_lt}
use Rattle.std.proofs.lemmas.Bool.{cond_both, true≢false}
use Rattle.std.proofs.lemmas.Int.{clamps, ints}
use Rattle.block_summary.specs.Cells.{AreBounds, AreNull, AreWithin, number_or_null, cells_of}
use Rattle.block_summary.proofs.CellLemmas.{cells_of-at, cells_between, number_at}

abbrev most : ℤ
most = pos 9_223_372_036_854_775_807

abbrev fewest : ℤ
fewest = negsuc 9_223_372_036_854_775_807

-- a row below n has this number
pub record IsReached (n : ℕ) (nulls : List Bool) (values : List ℤ) (z : ℤ) : Type 0 where
  pub place : ℕ
  pub below : place < n
  pub number : get_or nulls place false ≡ false
  pub is : get_or values place (pos 0) ≡ z

pub record AreBoundsTo (n : ℕ) (least greatest : ℤ) (nulls : List Bool) (values : List ℤ) : Type 0 where
  pub low : (k : ℕ) → k < n → get_or nulls k false ≡ false → least ≤ℤ get_or values k (pos 0)
  pub high : (k : ℕ) → k < n → get_or nulls k false ≡ false → get_or values k (pos 0) ≤ℤ greatest
  pub least_at : (least ≡ most) ⊎ IsReached n nulls values least
  pub greatest_at : (greatest ≡ fewest) ⊎ IsReached n nulls values greatest

reached_more : (n : ℕ) (nulls : List Bool) (values : List ℤ) (m z : ℤ) → (z ≡ m) ⊎ IsReached n nulls values z → (z ≡ m) ⊎ IsReached (n + 1) nulls values z
reached_more n nulls values m z (inl e) = inl e
reached_more n nulls values m z (inr r) = inr (record { place = r.place; below = omega (arith, r.below); number = r.number; is = r.is })

min_is : (P : ℤ → Type 0) (x y r : ℤ) → r ≡ int_min x y → P x → P y → P r
min_is P x y r e px py = subst P (sym e) (cond_both (int_lt y x) y x P (λ _. py) (λ _. px))

max_is : (P : ℤ → Type 0) (x y r : ℤ) → r ≡ int_max x y → P x → P y → P r
max_is P x y r e px py = subst P (sym e) (cond_both (int_lt y x) x y P (λ _. px) (λ _. py))

step : (n : ℕ) (nulls : List Bool) (values : List ℤ) (least greatest low high r s : ℤ) (b : Bool) → get_or nulls n false ≡ b
    → least ≤ℤ most → fewest ≤ℤ greatest → low ≡ cond b most (get_or values n (pos 0)) → high ≡ cond b fewest (get_or values n (pos 0))
    → r ≡ int_min least low → s ≡ int_max greatest high → AreBoundsTo n least greatest nulls values → AreBoundsTo (n + 1) r s nulls values
step n nulls values least greatest low high r s true null below above is_low is_high is_r is_s before =
    let same_r : r ≡ least = omega (arith, ints, clamps) in
    let same_s : s ≡ greatest = omega (arith, ints, clamps) in
    record {
      low = below_more _ _
          (λ k h is. subst (λ z. z ≤ℤ get_or values k (pos 0)) (sym same_r) (before.low k h is))
          (λ is. absurd (true≢false (sym null ∙ is)));
      high = below_more _ _
          (λ k h is. subst (λ z. get_or values k (pos 0) ≤ℤ z) (sym same_s) (before.high k h is))
          (λ is. absurd (true≢false (sym null ∙ is)));
      least_at = subst (λ z. (z ≡ most) ⊎ IsReached (n + 1) nulls values z) (sym same_r) (reached_more n nulls values most least before.least_at);
      greatest_at = subst (λ z. (z ≡ fewest) ⊎ IsReached (n + 1) nulls values z) (sym same_s) (reached_more n nulls values fewest greatest before.greatest_at);
    }
step n nulls values least greatest low high r s false number below above is_low is_high is_r is_s before = record {
  low = below_more _ _
      (λ k h is. omega (arith, ints, clamps, before.low k h is))
      (λ is. omega (arith, ints, clamps));
  high = below_more _ _
      (λ k h is. omega (arith, ints, clamps, before.high k h is))
      (λ is. omega (arith, ints, clamps));
  least_at = min_is (λ z. (z ≡ most) ⊎ IsReached (n + 1) nulls values z) least low r is_r
      (reached_more n nulls values most least before.least_at)
      (inr (record { place = n; below = omega arith; number = number; is = sym is_low }));
  greatest_at = max_is (λ z. (z ≡ fewest) ⊎ IsReached (n + 1) nulls values z) greatest high s is_s
      (reached_more n nulls values fewest greatest before.greatest_at)
      (inr (record { place = n; below = omega arith; number = number; is = sym is_high }));
}

pub bounds_more : (n : ℕ) (nulls : List Bool) (values : List ℤ) (least greatest low high r s : ℤ)
    → least ≤ℤ most → fewest ≤ℤ greatest → low ≡ cond (get_or nulls n false) most (get_or values n (pos 0)) → high ≡ cond (get_or nulls n false) fewest (get_or values n (pos 0))
    → r ≡ int_min least low → s ≡ int_max greatest high → AreBoundsTo n least greatest nulls values → AreBoundsTo (n + 1) r s nulls values
bounds_more n nulls values least greatest low high r s = step n nulls values least greatest low high r s (get_or nulls n false) refl

-- ---- at the end

least_reached : (n : ℕ) (nulls : List Bool) (values : List ℤ) (least greatest : ℤ) → least ≤ℤ greatest → greatest ≤ℤ most
    → (least ≡ most) ⊎ IsReached n nulls values least → (greatest ≡ fewest) ⊎ IsReached n nulls values greatest → IsReached n nulls values least
least_reached n nulls values least greatest ordered top (inr r) g = r
least_reached n nulls values least greatest ordered top (inl e) (inr r) =
    let same : greatest ≡ least = omega (arith, ints) in
    record { place = r.place; below = r.below; number = r.number; is = r.is ∙ same }
least_reached n nulls values least greatest ordered top (inl e) (inl f) = absurd (omega (arith, ints))

greatest_reached : (n : ℕ) (nulls : List Bool) (values : List ℤ) (least greatest : ℤ) → least ≤ℤ greatest → fewest ≤ℤ least
    → (least ≡ most) ⊎ IsReached n nulls values least → (greatest ≡ fewest) ⊎ IsReached n nulls values greatest → IsReached n nulls values greatest
greatest_reached n nulls values least greatest ordered bottom l (inr r) = r
greatest_reached n nulls values least greatest ordered bottom (inr r) (inl e) =
    let same : least ≡ greatest = omega (arith, ints) in
    record { place = r.place; below = r.below; number = r.number; is = r.is ∙ same }
greatest_reached n nulls values least greatest ordered bottom (inl f) (inl e) = absurd (omega (arith, ints))

among : (nulls : List Bool) (values : List ℤ) (z : ℤ) → IsReached (length values) nulls values z → (i : ℕ) × (get_or (cells_of nulls values) i None ≡ Some z)
among nulls values z r = (
  r.place,
  cells_of-at nulls values r.place r.below ∙ ap (λ b. number_or_null b (get_or values r.place (pos 0))) r.number ∙ ap Some r.is,
)

pub bounds_found : (nulls : List Bool) (values : List ℤ) (least greatest : ℤ) → least ≤ℤ greatest → fewest ≤ℤ least → greatest ≤ℤ most
    → AreBoundsTo (length values) least greatest nulls values → AreBounds least greatest (cells_of nulls values)
bounds_found nulls values least greatest ordered bottom top found = record {
  least_among = among nulls values least (least_reached (length values) nulls values least greatest ordered top found.least_at found.greatest_at);
  greatest_among = among nulls values greatest (greatest_reached (length values) nulls values least greatest ordered bottom found.least_at found.greatest_at);
  between = cells_between least greatest nulls values (λ i h is. (found.low i h is, found.high i h is));
}

none_or : (o : Option ℤ) → ((v : ℤ) → o ≡ Some v → ⊥) → o ≡ None
none_or None h = refl
none_or (Some v) h = absurd (h v refl)

pub no_bounds : (nulls : List Bool) (values : List ℤ) (least greatest : ℤ) → greatest <ℤ least → AreBoundsTo (length values) least greatest nulls values → AreNull (cells_of nulls values)
no_bounds nulls values least greatest apart found = λ i. none_or (get_or (cells_of nulls values) i None)
    (λ v e. let at = number_at nulls values i v e in
    let low = found.low i at.0 at.1 in
    let high = found.high i at.0 at.1 in
    omega (arith, ints))

-- ---- what the bounds of the cells say of the values

pub bounds_ordered : (least greatest : ℤ) (cells : List (Option ℤ)) → AreBounds least greatest cells → least ≤ℤ greatest
bounds_ordered least greatest cells are = (are.between are.least_among.0 least are.least_among.1).1

pub bounds_within : (least greatest : ℤ) (nulls : List Bool) (values : List ℤ) → AreBounds least greatest (cells_of nulls values) → AreWithin least greatest nulls values
bounds_within least greatest nulls values are = λ i h is.
    are.between i (get_or values i (pos 0)) (cells_of-at nulls values i h ∙ ap (λ b. number_or_null b (get_or values i (pos 0))) is)

some_none : (v : ℤ) → ◌≡◌ {A = Option ℤ} (Some v) None → ⊥
some_none v e = cc

pub nulls_within : (least greatest : ℤ) (nulls : List Bool) (values : List ℤ) → AreNull (cells_of nulls values) → AreWithin least greatest nulls values
nulls_within least greatest nulls values none = λ i h is.
    absurd (some_none (get_or values i (pos 0)) (sym (cells_of-at nulls values i h ∙ ap (λ b. number_or_null b (get_or values i (pos 0))) is) ∙ none i))
