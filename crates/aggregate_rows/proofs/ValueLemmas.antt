-- The least and the greatest of values, and how many there are, where more come.
use Rattle.std.proofs.Common.{◌≡◌, ◌↔◌, ℕ, Bool, true, false, cond, ◌||◌, IsTrue, List, [], ◌∷◌, ◌++◌, map, filter, inl, inr, refl, sym, ap, ◌∙◌}
use Rattle.std.specs.Cmp.{both_ways, IsEquivalence, IsTotalOrder}
use Rattle.std.specs.List.{AllByRecursion, IsDistinct, list_any}
use Rattle.std.proofs.lemmas.Bool.{cases_Bool}
use Rattle.std.proofs.lemmas.List.{map-append}
use Rattle.std.proofs.lemmas.List.Elements.{filter_passes, filter-append, recursion_from_All}
use Rattle.std.proofs.lemmas.List.Folds.{list_any-append}
use Rattle.std.proofs.lemmas.Map.Keys.{IsDistinct-push}
use Rattle.std.proofs.lemmas.Map.Made.{length-from_keys}
use Rattle.cell_types.specs.Value.{CellValue, null, value_cmp, value_eq}
use Rattle.query_meaning.specs.Apply.{computed_value, is_value, least_value, greatest_value, value_at, present_values}
use Rattle.aggregate_rows.specs.declared.computed.Extreme.{Extreme}
use Rattle.aggregate_rows.specs.declared.computed.Extreme.TheVariants.{Greatest, Least}
use Rattle.aggregate_rows.specs.Computed.{aggregate_of, better_value, value_wins}
use Rattle.aggregate_rows.specs.Distinct.{HasDistinct}
use Rattle.aggregate_rows.proofs.ExtremeLemmas.{below_trans, not_below, pick, picked}
use Rattle.aggregate_rows.proofs.ListLemmas.{there_already}

all_values : (vs : List CellValue) → AllByRecursion (λ v. is_value v ≡ true) (filter is_value vs)
all_values vs = recursion_from_All (λ v. is_value v ≡ true) (filter is_value vs) (filter_passes is_value vs)

-- ---- the best of values, where a test tells which of two wins: null is none

abbrev choose : (CellValue → CellValue → Bool) → CellValue → CellValue → CellValue
choose wins v w = cond (is_value v) (cond (is_value w) (pick wins v w) v) w

module _ (wins : CellValue → CellValue → Bool) where
  value_picked : (v w : CellValue) → is_value v ≡ true → is_value w ≡ true → is_value (pick wins v w) ≡ true
  value_picked v w a b = elim (cases_Bool (wins w v)) [ inl e ↦ rw e b | inr e ↦ rw e a ]

  module _ (trans : (u v w : CellValue) → wins w v ≡ true → wins v u ≡ true → wins w u ≡ true)
      (lost : (u v w : CellValue) → wins w v ≡ false → wins v u ≡ false → wins w u ≡ false) where
    chosen : (u v w : CellValue) → choose wins u (choose wins v w) ≡ choose wins (choose wins u v) w
    chosen u v w = elim (cases_Bool (is_value u)) [
      | inr a ↦ rw a refl
      | inl a ↦ elim (cases_Bool (is_value v)) [
        | inr b ↦ rw (a, b, a) refl
        | inl b ↦ elim (cases_Bool (is_value w)) [
          | inr c ↦ rw (a, b, c, b, value_picked u v a b) refl
          | inl c ↦ rw (a, b, c, value_picked v w b c, value_picked u v a b) (picked wins trans lost u v w)
        ]
      ]
    ]

  module _ (best : List CellValue → CellValue) (none : best [] ≡ null) (one : (v : CellValue) → best (v ∷ []) ≡ v)
      (more : (v w : CellValue) (ws : List CellValue) → best (v ∷ w ∷ ws) ≡ pick wins v (best (w ∷ ws))) where
    best_is_value : (w : CellValue) (ws : List CellValue) → AllByRecursion (λ v. is_value v ≡ true) (w ∷ ws) → is_value (best (w ∷ ws)) ≡ true
    best_is_value w [] a = ap is_value (one w) ∙ a.0
    best_is_value w (x ∷ ws) a = ap is_value (more w x ws) ∙ value_picked w (best (x ∷ ws)) a.0 (best_is_value x ws a.1)

    best_of : (v : CellValue) (ws : List CellValue) → AllByRecursion (λ v. is_value v ≡ true) ws → is_value v ≡ true → best (v ∷ ws) ≡ choose wins v (best ws)
    best_of v [] a e = rw (one v, none, e) refl
    best_of v (w ∷ ws) a e = rw (more v w ws, e, best_is_value w ws a) refl

    best_before : (v : CellValue) (vs : List CellValue) → best (filter is_value (v ∷ vs)) ≡ choose wins v (best (filter is_value vs))
    best_before v vs = elim (cases_Bool (is_value v)) [
      | inl e ↦ rw (← (best_of v (filter is_value vs) (all_values vs) e), e) refl
      | inr e ↦ rw e refl
    ]

    best_joined : ((u v w : CellValue) → choose wins u (choose wins v w) ≡ choose wins (choose wins u v) w) → (vs ws : List CellValue)
        → best (filter is_value (vs ++ ws)) ≡ choose wins (best (filter is_value vs)) (best (filter is_value ws))
    best_joined joins [] ws = sym (ap (λ z. choose wins z (best (filter is_value ws))) none)
    best_joined joins (v ∷ vs) ws =
        best_before v (vs ++ ws) ∙ ap (choose wins v) (best_joined joins vs ws) ∙ joins v (best (filter is_value vs)) (best (filter is_value ws))
        ∙ ap (λ z. choose wins z (best (filter is_value ws))) (sym (best_before v vs))

-- ---- the least and the greatest

-- of no rows, of some rows after another one, and of some rows and more
pub extreme_of_none : (extreme : Extreme) (place : ℕ) → computed_value [] (aggregate_of extreme place) ≡ null
extreme_of_none Least place = refl
extreme_of_none Greatest place = refl

pub extreme_before : (extreme : Extreme) (place : ℕ) (row : List CellValue) (rows : List (List CellValue))
    → computed_value (row ∷ rows) (aggregate_of extreme place) ≡ better_value extreme (value_at row place) (computed_value rows (aggregate_of extreme place))
extreme_before Least place row rows = best_before (value_wins Least) least_value refl (λ v. refl) (λ v w ws. refl) (value_at row place) (map (λ r. value_at r place) rows)
extreme_before Greatest place row rows = best_before (value_wins Greatest) greatest_value refl (λ v. refl) (λ v w ws. refl) (value_at row place) (map (λ r. value_at r place) rows)

module _ (total : IsTotalOrder value_cmp) (place : ℕ) (rows more : List (List CellValue)) where
  pub extreme_joined : (extreme : Extreme) → computed_value (rows ++ more) (aggregate_of extreme place)
      ≡ better_value extreme (computed_value rows (aggregate_of extreme place)) (computed_value more (aggregate_of extreme place))
  extreme_joined Least =
      ap (λ vs. least_value (filter is_value vs)) (map-append (λ row. value_at row place) rows more)
      ∙ best_joined (value_wins Least) least_value refl (λ v. refl) (λ v w ws. refl)
      (chosen (value_wins Least) (λ x y z e f. below_trans value_cmp total z y x e f) (λ x y z e f. not_below value_cmp total z y x e f))
      (map (λ row. value_at row place) rows) (map (λ row. value_at row place) more)
  extreme_joined Greatest =
      ap (λ vs. greatest_value (filter is_value vs)) (map-append (λ row. value_at row place) rows more)
      ∙ best_joined (value_wins Greatest) greatest_value refl (λ v. refl) (λ v w ws. refl)
      (chosen (value_wins Greatest) (λ x y z e f. below_trans value_cmp total x y z f e) (λ x y z e f. not_below value_cmp total x y z f e))
      (map (λ row. value_at row place) rows) (map (λ row. value_at row place) more)

pub values_append : (place : ℕ) (rows more : List (List CellValue)) → present_values place (rows ++ more) ≡ present_values place rows ++ present_values place more
values_append place rows more =
    ap (filter is_value) (map-append (λ row. value_at row place) rows more)
    ∙ filter-append is_value (map (λ row. value_at row place) rows) (map (λ row. value_at row place) more)

-- ---- different values

pub any_view : {V : Type 0} (view : V → CellValue) (eq : V → V → Bool) → ((v w : V) → eq v w ≡ value_eq (view v) (view w)) → (v : V) (keys : List V)
    → list_any (eq v) keys ≡ list_any (value_eq (view v)) (map view keys)
any_view view eq is v [] = refl
any_view view eq is v (k ∷ ks) = rw (is v k, any_view view eq is v ks) refl

pub no_keys : HasDistinct [] []
unfolding IsDistinct
no_keys = record { distinct = tt; count = refl; same = λ v. refl }

module _ (equal : (a b : CellValue) → IsTrue (value_eq a b) ↔ (a ≡ b)) where
  is : (a b : CellValue) → value_eq a b ≡ true → a ≡ b
  is a b e = (equal a b).0 e

  self : (a : CellValue) → value_eq a a ≡ true
  self a = (equal a a).1 refl

  alike : IsEquivalence value_eq
  alike = record {
    refl = self;
    symm = λ v w. both_ways (value_eq v w) (value_eq w v) (λ e. (equal w v).1 (sym (is v w e))) (λ e. (equal v w).1 (sym (is w v e)));
    congr = λ u v w e. ap (λ x. value_eq x w) (is u v e);
  }

  -- as many keys as there are different values
  held : (keys values : List CellValue) → IsDistinct value_eq keys → ((v : CellValue) → list_any (value_eq v) keys ≡ list_any (value_eq v) values) → HasDistinct keys values
  held keys values distinct same = record { distinct = distinct; same = same; count = length-from_keys alike keys values distinct same }

  -- a value that is there already
  pub seen_again : (keys values : List CellValue) (v : CellValue) → HasDistinct keys values → list_any (value_eq v) keys ≡ true → HasDistinct keys (values ++ v ∷ [])
  seen_again keys values v has there =
      held keys (values ++ v ∷ []) has.distinct (λ w. has.same w ∙ sym (there_already value_eq is self values v w (sym (has.same v) ∙ there)))

  -- a value that is new
  pub seen_first : (keys values : List CellValue) (v : CellValue) → HasDistinct keys values → list_any (value_eq v) keys ≡ false
      → HasDistinct (keys ++ v ∷ []) (values ++ v ∷ [])
  seen_first keys values v has absent =
      held (keys ++ v ∷ []) (values ++ v ∷ []) (IsDistinct-push alike keys v has.distinct absent)
      (λ w. list_any-append (value_eq w) keys (v ∷ []) ∙ ap (λ b. b || list_any (value_eq w) (v ∷ [])) (has.same w) ∙ sym (list_any-append (value_eq w) values (v ∷ [])))
