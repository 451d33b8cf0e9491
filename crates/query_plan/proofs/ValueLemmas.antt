-- What is computed of rows fits the types of columns.
use Rattle.std.proofs.Common.{◌≡◌, ℕ, zero, suc, ◌+◌, ◌*◌, ◌≤◌, Bool, true, false, cond, Option, Some, None, List, [], ◌∷◌, length, map, subst, arith, inl, inr}
use Rattle.std.specs.Prelude.{ℤ, ◌+ℤ◌, unsigned_abs, IfSome, option_and_then, slice_get}
use Rattle.std.specs.List.{AllByRecursion, cons_option, filter_map}
use Rattle.std.specs.Ordering.{is_lt}
use Rattle.std.specs.Set.{distinct_count}
use Rattle.std.proofs.lemmas.Bool.{cases_Bool}
use Rattle.std.proofs.lemmas.Int.{ints}
use Rattle.std.proofs.lemmas.List.{length-map}
use Rattle.std.proofs.lemmas.Map.Made.{distinct_count-le}
use Rattle.std.proofs.lemmas.Nat.{mul-le}
use Rattle.cell_types.specs.Value.{CellValue, null, integer, decimal, value_cmp, value_eq}
use Rattle.odata_types.specs.declared.types.ColumnType.{ColumnType}
use Rattle.cell_types.specs.declared.kind.ColumnKind.TheVariants.{Number}
use Rattle.cell_types.specs.declared.kind.NumberKind.TheVariants as numbers
use Rattle.odata_types.specs.Columns.{InputOf}
use Rattle.odata_types.specs.Input.{IsOfKind, IsOfType, IsRowOf}
use Rattle.row_eval.specs.Row.{cell, decimal_in, integer_in}
use Rattle.query_meaning.specs.Apply.{greatest_value, integer_sum, is_value, least_value, sum_value, value_at, present_values}
use Rattle.cell_types.proofs.ListLaws.{length-filter-le}

-- ---- values of a row

abbrev pub OfColumn : Option InputOf → CellValue → Type 0
OfColumn None v = Unit {0}
OfColumn (Some c) v = IsOfType c.column_type v

pub value_fits : (inputs : List InputOf) (row : List CellValue) (place : ℕ) → IsRowOf inputs row → OfColumn (slice_get inputs place) (value_at row place)
value_fits [] [] place h = tt
value_fits [] (v ∷ vs) place h = absurd h
value_fits (c ∷ cs) [] place h = absurd h
value_fits (c ∷ cs) (v ∷ vs) zero h = h.0
value_fits (c ∷ cs) (v ∷ vs) (suc place) h = value_fits cs vs place h.1

abbrev pub CellFits : Option InputOf → Option CellValue → Type 0
CellFits (Some c) (Some v) = IsOfType c.column_type v
CellFits _ _ = Unit {0}

cell_fits : (inputs : List InputOf) (row : List CellValue) (place : ℕ) → IsRowOf inputs row → CellFits (slice_get inputs place) (slice_get row place)
cell_fits [] [] place h = tt
cell_fits [] (v ∷ vs) place h = absurd h
cell_fits (c ∷ cs) [] place h = absurd h
cell_fits (c ∷ cs) (v ∷ vs) zero h = h.0
cell_fits (c ∷ cs) (v ∷ vs) (suc place) h = cell_fits cs vs place h.1

-- ---- numbers of a column

abbrev pub AtMost : ℕ → ℤ → Type 0
AtMost bound n = unsigned_abs n ≤ bound

pub integers_within : (bound : ℕ) (v : CellValue) → IsOfKind (Number numbers.Integer) bound v → IfSome (integer_in v) (AtMost bound)
integers_within bound (integer n) h = h
integers_within bound v h = tt

pub decimals_within : (bound : ℕ) (v : CellValue) → IsOfKind (Number numbers.Decimal) bound v → IfSome (decimal_in v) (AtMost bound)
decimals_within bound (decimal n) h = h
decimals_within bound v h = tt

cons_within : (bound : ℕ) (o : Option ℤ) (ns : List ℤ) → IfSome o (AtMost bound) → AllByRecursion (AtMost bound) ns → AllByRecursion (AtMost bound) (cons_option o ns)
cons_within bound None ns h all = all
cons_within bound (Some n) ns h all = (h, all)

module _ (read : CellValue → Option ℤ) (type : ColumnType) (bound : ℕ) (reads : (v : CellValue) → IsOfType type v → IfSome (read v) (AtMost bound)) where
  read_within : (name : List ℕ) (o : Option CellValue) → CellFits (Some (record { name = name; column_type = type })) o → IfSome (option_and_then read o) (AtMost bound)
  read_within name None h = tt
  read_within name (Some v) h = reads v h

  pub numbers_within : (inputs : List InputOf) (place : ℕ) (name : List ℕ) → slice_get inputs place ≡ Some (record { name = name; column_type = type })
      → (rows : List (List CellValue)) → AllByRecursion (IsRowOf inputs) rows → AllByRecursion (AtMost bound) (filter_map (λ row. cell read row place) rows)
  numbers_within inputs place name is [] all = tt
  numbers_within inputs place name is (row ∷ rows) all =
      let one : CellFits (Some (record { name = name; column_type = type })) (slice_get row place) = subst (λ (c : Option InputOf). CellFits c (slice_get row place)) is (cell_fits inputs row place all.0) in
      cons_within bound (cell read row place) (filter_map (λ row. cell read row place) rows) (read_within name (slice_get row place) one)
      (numbers_within inputs place name is rows all.1)

pub sum_within : (bound : ℕ) (ns : List ℤ) → AllByRecursion (AtMost bound) ns → unsigned_abs (integer_sum ns) ≤ length ns * bound
sum_within bound [] all = omega arith
sum_within bound (n ∷ ns) all =
    let more : unsigned_abs (n +ℤ integer_sum ns) ≤ unsigned_abs n + unsigned_abs (integer_sum ns) = omega (arith, ints) in
    let rest : unsigned_abs (integer_sum ns) ≤ length ns * bound = sum_within bound ns all.1 in
    let one : unsigned_abs n ≤ bound = all.0 in
    let product : suc (length ns) * bound ≡ length ns * bound + bound = grind arith in
    omega arith

-- a sum of the numbers of few rows
pub sum_below : (bound most : ℕ) (ns : List ℤ) → AllByRecursion (AtMost bound) ns → length ns ≤ most → unsigned_abs (integer_sum ns) ≤ bound * most
sum_below bound most ns all few =
    let sum : unsigned_abs (integer_sum ns) ≤ length ns * bound = sum_within bound ns all in
    let product : length ns * bound ≤ most * bound = mul-le (length ns) bound most bound few (omega arith) in
    let turned : most * bound ≡ bound * most = grind arith in
    omega arith

pub integer_sum_fits : (bound most : ℕ) (ns : List ℤ) → AllByRecursion (AtMost bound) ns → length ns ≤ most → IsOfKind (Number numbers.Integer) (bound * most) (sum_value integer ns)
integer_sum_fits bound most [] all few = tt
integer_sum_fits bound most (n ∷ ns) all few = sum_below bound most (n ∷ ns) all few

pub decimal_sum_fits : (bound most : ℕ) (ns : List ℤ) → AllByRecursion (AtMost bound) ns → length ns ≤ most → IsOfKind (Number numbers.Decimal) (bound * most) (sum_value decimal ns)
decimal_sum_fits bound most [] all few = tt
decimal_sum_fits bound most (n ∷ ns) all few = sum_below bound most (n ∷ ns) all few

-- ---- values of a column

module _ (type : ColumnType) where
  kept_fits : (b : Bool) (v : CellValue) (vs : List CellValue) → IsOfType type v → AllByRecursion (IsOfType type) vs → AllByRecursion (IsOfType type) (cond b (v ∷ vs) vs)
  kept_fits true v vs h all = (h, all)
  kept_fits false v vs h all = all

  pub values_fit : (inputs : List InputOf) (place : ℕ) (name : List ℕ) → slice_get inputs place ≡ Some (record { name = name; column_type = type })
      → (rows : List (List CellValue)) → AllByRecursion (IsRowOf inputs) rows → AllByRecursion (IsOfType type) (present_values place rows)
  values_fit inputs place name is [] all = tt
  values_fit inputs place name is (row ∷ rows) all =
      kept_fits (is_value (value_at row place)) (value_at row place) (present_values place rows)
      (subst (λ (c : Option InputOf). OfColumn c (value_at row place)) is (value_fits inputs row place all.0)) (values_fit inputs place name is rows all.1)

  null_fits : IsOfType type null
  null_fits = tt

  pub least_fits : (vs : List CellValue) → AllByRecursion (IsOfType type) vs → IsOfType type (least_value vs)
  least_fits [] all = null_fits
  least_fits (v ∷ []) all = all.0
  least_fits (v ∷ w ∷ vs) all = elim (cases_Bool (is_lt (value_cmp (least_value (w ∷ vs)) v))) [ inl e ↦ rw e (least_fits (w ∷ vs) all.1) | inr e ↦ rw e all.0 ]

  pub greatest_fits : (vs : List CellValue) → AllByRecursion (IsOfType type) vs → IsOfType type (greatest_value vs)
  greatest_fits [] all = null_fits
  greatest_fits (v ∷ []) all = all.0
  greatest_fits (v ∷ w ∷ vs) all = elim (cases_Bool (is_lt (value_cmp v (greatest_value (w ∷ vs))))) [ inl e ↦ rw e (greatest_fits (w ∷ vs) all.1) | inr e ↦ rw e all.0 ]

-- ---- counts

pub distinct_few : (place : ℕ) (rows : List (List CellValue)) → distinct_count value_eq (present_values place rows) ≤ length rows
distinct_few place rows =
    let few : distinct_count value_eq (present_values place rows) ≤ length (present_values place rows) = distinct_count-le value_eq (present_values place rows) in
    let values : length (present_values place rows) ≤ length (map (λ row. value_at row place) rows) = length-filter-le is_value (map (λ row. value_at row place) rows) in
    let mapped : length (map (λ row. value_at row place) rows) ≡ length rows = length-map rows (λ row. value_at row place) in
    omega arith
