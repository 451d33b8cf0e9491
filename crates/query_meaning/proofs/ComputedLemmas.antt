-- Sums, extremes and counts of the values of a column.
use Rattle.std.proofs.Common.{◌≡◌, ◌≢◌, ◌↔◌, inl, inr, ℕ, zero, suc, Bool, true, false, Option, Some, None, List, [], ◌∷◌, ◌++◌, map, refl, sym, ap, ◌∙◌, subst, arith}
use Rattle.std.specs.Prelude.{ℤ, pos, ◌+ℤ◌, IsTrue}
use Rattle.std.specs.Cmp.{IsEquivalence, IsStrictWeakOrder, IsTotalOrder, both_ways}
use Rattle.std.specs.List.{AllByRecursion, Any, Contains, filter_map}
use Rattle.std.specs.Ordering.{is_lt}
use Rattle.std.specs.Set.{is_member}
use Rattle.std.proofs.lemmas.Bool.{cases_Bool, false≢true}
use Rattle.std.proofs.lemmas.Int.{ints}
use Rattle.std.proofs.lemmas.List.{append-nil}
use Rattle.std.proofs.lemmas.List.Elements.{filter_map-append, recursion_from_All}
use Rattle.std.proofs.lemmas.List.Folds.{Any-from_list_any, list_any-from_Any}
use Rattle.std.proofs.lemmas.List.Sorted.{ranks_by}
use Rattle.std.proofs.lemmas.Map.Made.{length-from_keys}
use Rattle.cell_types.specs.Value.{CellValue, null, integer, decimal, value_cmp, value_eq}
use Rattle.row_eval.specs.Row.{cell, decimal_in, integer_in}
use Rattle.query_meaning.specs.Apply.{greatest_value, integer_sum, is_value, least_value, sum_value, value_at, present_values}
use Rattle.query_meaning.specs.Laws.{DistinctValuesAreCounted, ExtremesAreValues, StandsInColumn, SumsAddUp, added}
use Rattle.query_meaning.proofs.FilterLemmas.{first_or_later, from_filter, here, into_filter, later, none_in}
use Rattle.query_meaning.proofs.GroupLemmas.{map_from, map_into}

-- ---- sums

sum_of_both : (ms ns : List ℤ) → integer_sum (ms ++ ns) ≡ integer_sum ms +ℤ integer_sum ns
sum_of_both [] ns = omega (arith, ints)
sum_of_both (m ∷ ms) ns = let more = sum_of_both ms ns in omega (arith, ints)

module _ (kind : ℤ → CellValue) (both : (m n : ℤ) → added (kind m) (kind n) ≡ kind (m +ℤ n)) (left : (m : ℤ) → added (kind m) null ≡ kind m) where
  added_sums : (ms ns : List ℤ) → sum_value kind (ms ++ ns) ≡ added (sum_value kind ms) (sum_value kind ns)
  added_sums [] ns = refl
  added_sums (m ∷ ms) [] = ap (λ ks. kind (integer_sum (m ∷ ks))) (append-nil ms) ∙ sym (left (integer_sum (m ∷ ms)))
  added_sums (m ∷ ms) (n ∷ ns) = ap kind (sum_of_both (m ∷ ms) (n ∷ ns)) ∙ sym (both (integer_sum (m ∷ ms)) (integer_sum (n ∷ ns)))

  module _ (read : CellValue → Option ℤ) (place : ℕ) where
    abbrev sum : List (List CellValue) → CellValue
    sum rows = sum_value kind (filter_map (λ row. cell read row place) rows)

    sum_parts : (front back : List (List CellValue)) → sum (front ++ back) ≡ added (sum front) (sum back)
    sum_parts front back =
        ap (sum_value kind) (filter_map-append (λ row. cell read row place) front back)
        ∙ added_sums (filter_map (λ row. cell read row place) front) (filter_map (λ row. cell read row place) back)

module _ (read : CellValue → Option ℤ) (of_null : read null ≡ None) where
  cell_at : (row : List CellValue) (place : ℕ) → cell read row place ≡ read (value_at row place)
  cell_at [] place = sym of_null
  cell_at (v ∷ vs) zero = refl
  cell_at (v ∷ vs) (suc place) = cell_at vs place

  sum_of_one : (kind : ℤ → CellValue) (place : ℕ) (row : List CellValue) (o : Option ℤ) → read (value_at row place) ≡ o
      → sum_value kind (filter_map (λ r. cell read r place) (row ∷ [])) ≡ sum_value kind (filter_map (λ x. x) (o ∷ []))
  sum_of_one kind place row o e = let same : cell read row place ≡ o = cell_at row place ∙ e in rw same refl

plain_sum : (n : ℤ) → n +ℤ pos 0 ≡ n
plain_sum n = omega (arith, ints)

no_integer : (v : CellValue) → ((n : ℤ) → v ≢ integer n) → integer_in v ≡ None
no_integer (integer n) h = absurd (h n refl)
no_integer v h = refl

no_decimal : (v : CellValue) → ((n : ℤ) → v ≢ decimal n) → decimal_in v ≡ None
no_decimal (decimal n) h = absurd (h n refl)
no_decimal v h = refl

pub sums_add_up : SumsAddUp
sums_add_up = (
  record {
    none = λ place. refl;
    one = λ place row n e. sum_of_one integer_in refl integer place row (Some n) (ap integer_in e) ∙ ap integer (plain_sum n);
    no_number = λ place row h. sum_of_one integer_in refl integer place row None (no_integer (value_at row place) h);
    parts = λ place. sum_parts integer (λ m n. refl) (λ m. refl) integer_in place;
  },
  record {
    none = λ place. refl;
    one = λ place row n e. sum_of_one decimal_in refl decimal place row (Some n) (ap decimal_in e) ∙ ap decimal (plain_sum n);
    no_number = λ place row h. sum_of_one decimal_in refl decimal place row None (no_decimal (value_at row place) h);
    parts = λ place. sum_parts decimal (λ m n. refl) (λ m. refl) decimal_in place;
  },
)

-- ---- the values of a column

value_is : (v : CellValue) → v ≢ null → is_value v ≡ true
value_is null h = absurd (h refl)
value_is v h = refl

module _ (place : ℕ) (rows : List (List CellValue)) where
  among : (v : CellValue) → StandsInColumn place rows v → Contains (present_values place rows) v
  among v (some, (k, row, h, is, e)) =
      into_filter is_value (map (λ r. value_at r place) rows) v (value_is v some)
      (subst (Contains (map (λ r. value_at r place) rows)) e (map_into (λ r. value_at r place) rows row (k, h, is)))

  found : (v : CellValue) → Contains (present_values place rows) v → StandsInColumn place rows v
  found v h =
      let from = from_filter is_value (map (λ r. value_at r place) rows) v h in
      (λ e. false≢true (ap is_value (sym e) ∙ from.1), map_from (λ r. value_at r place) rows v from.0)

no_values : (place : ℕ) (rows : List (List CellValue)) → AllByRecursion (λ row. value_at row place ≡ null) rows → present_values place rows ≡ []
no_values place [] a = refl
no_values place (row ∷ rows) a = rw a.0 (no_values place rows a.1)

-- ---- the least and the greatest

module _ (order : IsStrictWeakOrder (λ a b. is_lt (value_cmp a b))) where
  abbrev less : CellValue → CellValue → Bool
  less a b = is_lt (value_cmp a b)

  not_itself : (v : CellValue) → less v v ≡ false
  not_itself v = elim (cases_Bool (less v v)) [ inl e ↦ order.one_way v v e | inr e ↦ e ]

  least_in : (v : CellValue) (vs : List CellValue) → Contains (v ∷ vs) (least_value (v ∷ vs))
  least_in v [] = here v []
  least_in v (w ∷ ws) = elim (cases_Bool (less (least_value (w ∷ ws)) v)) [
    | inl e ↦ rw e (later v (least_value (w ∷ ws)) (w ∷ ws) (least_in w ws))
    | inr e ↦ rw e (here v (w ∷ ws))
  ]

  least_below : (v : CellValue) (vs : List CellValue) (x : CellValue) → Contains (v ∷ vs) x → less x (least_value (v ∷ vs)) ≡ false
  least_below v [] x h = elim (first_or_later v x [] h) [
    | inl same ↦ subst (λ y. less y v ≡ false) same (not_itself v)
    | inr back ↦ absurd (none_in x back)
  ]
  least_below v (w ∷ ws) x h = elim (cases_Bool (less (least_value (w ∷ ws)) v)) [
    | inl e ↦ rw e (elim (first_or_later v x (w ∷ ws) h) [
      | inl same ↦ subst (λ y. less y (least_value (w ∷ ws)) ≡ false) same (order.one_way (least_value (w ∷ ws)) v e)
      | inr back ↦ least_below w ws x back
    ])
    | inr e ↦ rw e (elim (first_or_later v x (w ∷ ws) h) [
      | inl same ↦ subst (λ y. less y v ≡ false) same (not_itself v)
      | inr back ↦ order.chain x (least_value (w ∷ ws)) v (least_below w ws x back) e
    ])
  ]

  greatest_in : (v : CellValue) (vs : List CellValue) → Contains (v ∷ vs) (greatest_value (v ∷ vs))
  greatest_in v [] = here v []
  greatest_in v (w ∷ ws) = elim (cases_Bool (less v (greatest_value (w ∷ ws)))) [
    | inl e ↦ rw e (later v (greatest_value (w ∷ ws)) (w ∷ ws) (greatest_in w ws))
    | inr e ↦ rw e (here v (w ∷ ws))
  ]

  greatest_above : (v : CellValue) (vs : List CellValue) (x : CellValue) → Contains (v ∷ vs) x → less (greatest_value (v ∷ vs)) x ≡ false
  greatest_above v [] x h = elim (first_or_later v x [] h) [
    | inl same ↦ subst (λ y. less v y ≡ false) same (not_itself v)
    | inr back ↦ absurd (none_in x back)
  ]
  greatest_above v (w ∷ ws) x h = elim (cases_Bool (less v (greatest_value (w ∷ ws)))) [
    | inl e ↦ rw e (elim (first_or_later v x (w ∷ ws) h) [
      | inl same ↦ subst (λ y. less (greatest_value (w ∷ ws)) y ≡ false) same (order.one_way v (greatest_value (w ∷ ws)) e)
      | inr back ↦ greatest_above w ws x back
    ])
    | inr e ↦ rw e (elim (first_or_later v x (w ∷ ws) h) [
      | inl same ↦ subst (λ y. less v y ≡ false) same (not_itself v)
      | inr back ↦ order.chain v (greatest_value (w ∷ ws)) x e (greatest_above w ws x back)
    ])
  ]

  least_of : (vs : List CellValue) (v : CellValue) → Contains vs v → Contains vs (least_value vs) × (less v (least_value vs) ≡ false)
  least_of [] v h = absurd (none_in v h)
  least_of (w ∷ ws) v h = (least_in w ws, least_below w ws v h)

  greatest_of : (vs : List CellValue) (v : CellValue) → Contains vs v → Contains vs (greatest_value vs) × (less (greatest_value vs) v ≡ false)
  greatest_of [] v h = absurd (none_in v h)
  greatest_of (w ∷ ws) v h = (greatest_in w ws, greatest_above w ws v h)

pub extremes_are_values : IsTotalOrder value_cmp → ExtremesAreValues
extremes_are_values total =
    let order : IsStrictWeakOrder (λ a b. is_lt (value_cmp a b)) = ranks_by total (λ v. v) in
    record {
      none = λ place rows all.
          let empty = no_values place rows (recursion_from_All (λ row. value_at row place ≡ null) rows all) in
          (ap least_value empty, ap greatest_value empty);
      least = λ place rows v is. let it = least_of order (present_values place rows) v (among place rows v is) in (found place rows (least_value (present_values place rows)) it.0, it.1);
      greatest = λ place rows v is. let it = greatest_of order (present_values place rows) v (among place rows v is) in (found place rows (greatest_value (present_values place rows)) it.0, it.1);
    }

-- ---- distinct values

module _ (equal : (a b : CellValue) → IsTrue (value_eq a b) ↔ (a ≡ b)) where
  alike : IsEquivalence value_eq
  alike = record {
    refl = λ v. (equal v v).1 refl;
    symm = λ v w. both_ways (value_eq v w) (value_eq w v) (λ e. (equal w v).1 (sym ((equal v w).0 e))) (λ e. (equal v w).1 (sym ((equal w v).0 e)));
    congr = λ u v w e. ap (λ x. value_eq x w) ((equal u v).0 e);
  }

  is_in : (vs : List CellValue) (v : CellValue) → is_member value_eq vs v ≡ true → Contains vs v
  is_in vs v e = by (Any-from_list_any (value_eq v) vs e)
    where
      by : Any (λ w. value_eq v w ≡ true) vs → Contains vs v
      by (k, w, h, is, same) = subst (Contains vs) (sym ((equal v w).0 same)) (k, h, is)

  in_is : (vs : List CellValue) (v : CellValue) → Contains vs v → is_member value_eq vs v ≡ true
  in_is vs v (k, h, is) = list_any-from_Any (value_eq v) vs (k, v, h, is, (equal v v).1 refl)

  pub distinct_values_are_counted : DistinctValuesAreCounted
  distinct_values_are_counted place rows values distinct just =
      ap (λ (n : ℕ). integer (pos n)) (sym (length-from_keys alike values (present_values place rows) distinct (λ v.
      both_ways (is_member value_eq values v) (is_member value_eq (present_values place rows) v)
      (λ e. in_is (present_values place rows) v (among place rows v ((just v).0 (is_in values v e))))
      (λ e. in_is values v ((just v).1 (found place rows v (is_in (present_values place rows) v e)))))))
