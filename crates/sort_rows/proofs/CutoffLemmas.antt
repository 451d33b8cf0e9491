-- Rows that come too late to be among the first, judged by the value of the first item.
use Rattle.std.proofs.Common.{◌≡◌, inl, inr, ℕ, zero, suc, ◌<◌, ◌≤◌, ◌-◌, Bool, true, false, Some, List, [], ◌∷◌, ◌++◌, append-nil, append_assoc, filter, length, get_or, take, refl, sym, ap, ◌∙◌, subst, arith}
use Rattle.std.specs.Prelude.{option_map}
use Rattle.std.specs.Cmp.{IsStrictWeakOrder, IsTotalOrder}
use Rattle.std.specs.Ordering.{is_lt, ordering_then}
use Rattle.std.specs.declared.cmp.Ordering.{Ordering}
use Rattle.std.specs.declared.cmp.Ordering.TheVariants.{Less, Equal, Greater}
use Rattle.std.proofs.lemmas.Bool.{cases_Bool, false≢true, not-false, not-true}
use Rattle.std.proofs.lemmas.List.{length-take}
use Rattle.std.proofs.lemmas.List.Sorted.{ranks_by}
use Rattle.std.proofs.Math.Nat.{min-le_left}
use Rattle.cell_types.specs.Value.{CellValue, value_cmp}
use Rattle.query_meaning.specs.Laws.{RowsAreInOrder}
use Rattle.query_meaning.specs.Order.{Item, directed, item_value, rows_cmp, sorted}
use Rattle.sort_rows.specs.Best.{best_rows}
use Rattle.sort_rows.specs.Cutoffs.{first_value, is_before, is_near, may_precede, ComesLate, NeverFault, RowsAreCutOff}
use Rattle.sort_rows.proofs.BestLemmas.{AreUpTo, are_up_to_last, first_again, passed_over, ranked, rises_first, rising, still_up_to, take_before, take_behind}
use Rattle.sort_rows.proofs.ItemLemmas.{directed_total}
use Rattle.sort_rows.proofs.NearLemmas.{near_are_enough}
use Rattle.sort_rows.proofs.StableLemmas.{Rises}

-- ---- orders

-- what is not after a bound is before what is
before_through : {X : Type 0} (lt : X → X → Bool) → IsStrictWeakOrder lt → (bound a b : X) → lt bound a ≡ false → lt bound b ≡ true → lt a b ≡ true
before_through lt order bound a b e f = elim (cases_Bool (lt a b)) [
  | inl g ↦ g
  | inr g ↦ absurd (false≢true (sym (order.chain bound a b e g) ∙ f))
]

then_less : (o r : Ordering) → is_lt o ≡ true → is_lt (ordering_then o r) ≡ true
then_less Less r e = refl
then_less Equal r e = absurd (false≢true e)
then_less Greater r e = absurd (false≢true e)

then_alone : (o : Ordering) → is_lt (ordering_then o Equal) ≡ is_lt o
then_alone Less = refl
then_alone Equal = refl
then_alone Greater = refl

module _ (values : IsTotalOrder value_cmp) (law : RowsAreInOrder) where
  values_order : (descending : Bool) → IsStrictWeakOrder (is_before descending)
  values_order descending = ranks_by (directed_total values descending) (λ v. v)

  abbrev less : List Item → List CellValue → List CellValue → Bool
  less items a b = is_lt (rows_cmp items a b)

  abbrev first : List Item → ℕ → List (List CellValue) → List (List CellValue)
  first items most rows = take most (sorted (rows_cmp items) rows)

  best_is : (items : List Item) (most : ℕ) → NeverFault items → (rows : List (List CellValue)) → best_rows items most rows ≡ Some (first items most rows)
  best_is items most never rows = ap (option_map (take most)) (never rows)

  -- ---- rows after the first ones

  up_to_more : (items : List Item) (most : ℕ) (last : List CellValue) (front more : List (List CellValue)) → AreUpTo (rows_cmp items) most last (first items most front)
      → AreUpTo (rows_cmp items) most last (first items most (front ++ more))
  up_to_more items most last front [] up = subst (λ rows. AreUpTo (rows_cmp items) most last (first items most rows)) (sym (append-nil front)) up
  up_to_more items most last front (row ∷ more) up =
      subst (λ rows. AreUpTo (rows_cmp items) most last (first items most rows)) (append_assoc front (row ∷ []) more)
      (up_to_more items most last (front ++ row ∷ []) more (still_up_to (rows_cmp items) (ranked values law items) most last row front up))

  left_out : (items : List Item) (most : ℕ) (last row : List CellValue) (front others : List (List CellValue)) → less items row last ≡ false
      → AreUpTo (rows_cmp items) most last (first items most front) → first items most (front ++ row ∷ others) ≡ first items most (front ++ others)
  left_out items most last row front others late up =
      ap (first items most) (sym (append_assoc front (row ∷ []) others))
      ∙ take_before (rows_cmp items) (ranked values law items) most (front ++ row ∷ []) front others
      (passed_over (rows_cmp items) (ranked values law items) most last row front late up)

  late_after : (items : List Item) (most : ℕ) (best : List (List CellValue)) (last row : List CellValue) → NeverFault items → less items row last ≡ false
      → AreUpTo (rows_cmp items) most last (first items most best) → ComesLate items most best row
  late_after items most best last row never late up between others =
      let same = left_out items most last row (best ++ between) others late (up_to_more items most last best between up) in
      best_is items most never (best ++ between ++ row ∷ others) ∙ ap (λ rows. Some rows) same ∙ sym (best_is items most never (best ++ between ++ others))

  -- none of the first rows comes after the last of them
  last_is_last : (items : List Item) (most : ℕ) (rows best : List (List CellValue)) → NeverFault items → best_rows items most rows ≡ Some best → 0 < most → most ≤ length best
      → AreUpTo (rows_cmp items) most (get_or best (most - 1) []) (first items most best)
  last_is_last items zero rows best never is some enough = absurd (omega (arith, some))
  last_is_last items (suc n) rows best never is some enough =
      let all : first items (suc n) rows ≡ best = (let both = sym (best_is items (suc n) never rows) ∙ is in cc) in
      let short = length-take (suc n) (sorted (rows_cmp items) rows) in
      let least = min-le_left (suc n) (length (sorted (rows_cmp items) rows)) in
      let count : length best ≡ suc n = omega (arith, short, least, enough, ap length all) in
      let up = rises_first (rows_cmp items) (ranked values law items) (suc n) (sorted (rows_cmp items) rows) (rising values law items rows) in
      let one_less : n ≡ suc n - 1 = omega arith in
      let again : first items (suc n) best ≡ best =
      subst (λ rs. first items (suc n) rs ≡ rs) all (first_again (rows_cmp items) (ranked values law items) (suc n) rows (rising values law items rows)) in
      subst (λ rs. AreUpTo (rows_cmp items) (suc n) (get_or best (suc n - 1) []) rs) (sym again)
      (subst (λ k. AreUpTo (rows_cmp items) (suc n) (get_or best k []) best) one_less
      (are_up_to_last (rows_cmp items) (ranked values law items) n [] best
      (subst (Rises (less items) (ranked values law items)) all up) count))

  -- a row that may not precede another is not before it
  not_before : (items : List Item) (last row : List CellValue) → may_precede items (first_value items last) row ≡ false → less items row last ≡ false
  not_before [] last row out = refl
  not_before (item ∷ []) last row out = then_alone (directed item.1 (item_value item row) (item_value item last)) ∙ out
  not_before (item ∷ next ∷ items) last row out =
      let all = item ∷ next ∷ items in
      let sooner = then_less (directed item.1 (item_value item last) (item_value item row)) (rows_cmp (next ∷ items) last row)
      (not-false (is_before item.1 (item_value item last) (item_value item row)) out) in
      (ranked values law all).one_way last row sooner

  -- ---- rows that are near

  all_kept : {X : Type 0} (xs : List X) → filter (λ x. true) xs ≡ xs
  all_kept [] = refl
  all_kept (x ∷ xs) = ap (λ ys. x ∷ ys) (all_kept xs)

  apart : (item : Item) (others : List Item) (bound : CellValue) (a b : List CellValue) → is_near (item ∷ others) bound a ≡ true → is_near (item ∷ others) bound b ≡ false
      → less (item ∷ others) a b ≡ true
  apart item others bound a b near far =
      then_less (directed item.1 (item_value item a) (item_value item b)) (rows_cmp others a b)
      (before_through (is_before item.1) (values_order item.1) bound (item_value item a) (item_value item b)
      (not-true (is_before item.1 bound (item_value item a)) near) (not-false (is_before item.1 bound (item_value item b)) far))

  near_enough : (items : List Item) (most : ℕ) (front rows : List (List CellValue)) (bound : CellValue) → NeverFault items → most ≤ length (filter (is_near items bound) rows)
      → best_rows items most (front ++ filter (is_near items bound) rows) ≡ best_rows items most (front ++ rows)
  near_enough [] most front rows bound never enough = ap (λ rs. best_rows [] most (front ++ rs)) (all_kept rows)
  near_enough (item ∷ others) most front rows bound never enough =
      let items = item ∷ others in
      let near = filter (is_near items bound) rows in
      let same = take_behind (rows_cmp items) most front near rows
      (near_are_enough (rows_cmp items) (ranked values law items) (is_near items bound) (apart item others bound) most rows (rising values law items) enough) in
      best_is items most never (front ++ near) ∙ ap (λ rs. Some rs) same ∙ sym (best_is items most never (front ++ rows))

  pub rows_are_cut_off_lem : RowsAreCutOff
  rows_are_cut_off_lem = record {
    late = λ items most rows best row never is some enough out.
        late_after items most best (get_or best (most - 1) []) row never (not_before items (get_or best (most - 1) []) row out)
        (last_is_last items most rows best never is some enough);
    near = near_enough;
  }
