-- Aggregates on the rows of an input: their values fit the columns that they have by their types, and each sum fits.
use Rattle.std.proofs.Common.{◌≡◌, inl, inr, ℕ, zero, suc, ◌*◌, ◌<◌, ◌≤◌, ◌||◌, Option, Some, None, Ok, List, [], ◌∷◌, ◌++◌, length, map, refl, arith}
use Rattle.std.specs.Prelude.{ℤ, slice_get}
use Rattle.std.specs.List.{AllByRecursion, filter_map}
use Rattle.std.proofs.lemmas.Bool.{cases_Bool}
use Rattle.std.proofs.lemmas.List.Elements.{All-from_recursion}
use Rattle.std.proofs.lemmas.Nat.{mul-le}
use Rattle.cell_types.specs.Value.{CellValue}
use Rattle.odata_parse.specs.declared.tree.AggregationMethod.{AggregationMethod}
use Rattle.odata_parse.specs.declared.tree.AggregationMethod.TheVariants as method
use Rattle.odata_parse.specs.Tree.{AggregateItemOf, aggregated, counted}
use Rattle.odata_types.specs.declared.types.ColumnType.{ColumnType}
use Rattle.cell_types.specs.declared.kind.ColumnKind.{ColumnKind}
use Rattle.cell_types.specs.declared.kind.ColumnKind.TheVariants.{Text, Number}
use Rattle.cell_types.specs.declared.kind.NumberKind.TheVariants as numbers
use Rattle.odata_types.specs.declared.types.TheConstants.{MOST_SIZE}
use Rattle.odata_types.specs.Columns.{of_size, InputOf}
use Rattle.odata_types.specs.Result.{◌>>=◌}
use Rattle.odata_types.specs.Typing.{place_of}
use Rattle.odata_query.specs.declared.aggregate.Aggregate.{Aggregate}
use Rattle.odata_query.specs.declared.aggregate.Aggregate.TheVariants.{Count, SumOfIntegers, SumOfDecimals}
use Rattle.odata_query.specs.declared.aggregate.TheConstants.{MOST_ROWS}
use Rattle.odata_query.specs.Aggregate.{ItemOf}
use Rattle.odata_query.specs.Apply.{computed_typing, count_type, free_typing, has_alias, item_column, item_typing, items_typing, kind_sum, method_at, method_typing, named_of, optional_items, sum_typing}
use Rattle.odata_query.specs.Selection.{has_name}
use Rattle.odata_types.specs.Input.{IsOfType, IsRowOf}
use Rattle.row_eval.specs.Row.{cell, decimal_in, integer_in}
use Rattle.query_meaning.specs.Apply.{computed_value, computed_values, present_values}
use Rattle.cell_types.proofs.ListLaws.{length-filter_map-le}
use Rattle.query_plan.specs.Fitting.{AggregateFits}
use Rattle.query_meaning.specs.Fitting.{AreSummable}
use Rattle.query_meaning.specs.Meaning.{ResultOf}
use Rattle.query_plan.proofs.TypingLemmas.{Told, told_then, told_within}
use Rattle.query_plan.proofs.ValueLemmas.{AtMost, decimal_sum_fits, decimals_within, distinct_few, greatest_fits, integer_sum_fits, integers_within, least_fits, numbers_within, values_fit}

-- a result whose rows are rows of an input, no more than 2 to the 30
pub record Stands (inputs : List InputOf) (r : ResultOf) : Type 0 where
  pub named : length r.names ≡ length inputs
  pub each : AllByRecursion (IsRowOf inputs) r.rows
  pub few : length r.rows ≤ MOST_ROWS

-- an aggregate with its type
pub record IsGood (inputs : List InputOf) (made : Aggregate × ColumnType) : Type 0 where
  pub value : (rows : List (List CellValue)) → AllByRecursion (IsRowOf inputs) rows → length rows ≤ MOST_ROWS → IsOfType made.1 (computed_value rows made.0)
  pub fits : (r : ResultOf) → Stands inputs r → AggregateFits r made.0

pub place_below : (inputs : List InputOf) (place : ℕ) (c : InputOf) → slice_get inputs place ≡ Some c → place < length inputs
place_below [] place c e = absurd (cc)
place_below (d ∷ ds) zero c e = omega arith
place_below (d ∷ ds) (suc place) c e = let below : place < length ds = place_below ds place c e in omega arith

summable : (bound : ℕ) (ns : List ℤ) (rows : ℕ) → AllByRecursion (AtMost bound) ns → bound * MOST_ROWS ≤ MOST_SIZE → rows ≤ MOST_ROWS → AreSummable ns rows
summable bound ns rows all small few =
    let product : bound * rows ≤ bound * MOST_ROWS = mul-le bound rows bound MOST_ROWS (omega arith) few in
    record { bound = bound; each = All-from_recursion (AtMost bound) ns all; small = omega arith }

module _ (inputs : List InputOf) (place : ℕ) (name : List ℕ) where
  integer_sum_good : (bound : ℕ) → slice_get inputs place ≡ Some (record { name = name; column_type = of_size (Number numbers.Integer) bound }) → bound * MOST_ROWS ≤ MOST_SIZE
      → IsGood inputs (SumOfIntegers place, of_size (Number numbers.Integer) (bound * MOST_ROWS))
  integer_sum_good bound is small = record {
    value = λ rows all few. integer_sum_fits bound MOST_ROWS (filter_map (λ row. cell integer_in row place) rows)
        (numbers_within integer_in (of_size (Number numbers.Integer) bound) bound (integers_within bound) inputs place name is rows all)
        (let fewer : length (filter_map (λ row. cell integer_in row place) rows) ≤ length rows = length-filter_map-le (λ row. cell integer_in row place) rows in omega arith);
    fits = λ r stands. (
      let below : place < length inputs = place_below inputs place (record { name = name; column_type = of_size (Number numbers.Integer) bound }) is in let named : length r.names ≡ length inputs = stands.named in omega arith,
      summable bound (filter_map (λ row. cell integer_in row place) r.rows) (length r.rows)
          (numbers_within integer_in (of_size (Number numbers.Integer) bound) bound (integers_within bound) inputs place name is r.rows stands.each) small stands.few,
    );
  }

  decimal_sum_good : (bound : ℕ) → slice_get inputs place ≡ Some (record { name = name; column_type = of_size (Number numbers.Decimal) bound }) → bound * MOST_ROWS ≤ MOST_SIZE
      → IsGood inputs (SumOfDecimals place, of_size (Number numbers.Decimal) (bound * MOST_ROWS))
  decimal_sum_good bound is small = record {
    value = λ rows all few. decimal_sum_fits bound MOST_ROWS (filter_map (λ row. cell decimal_in row place) rows)
        (numbers_within decimal_in (of_size (Number numbers.Decimal) bound) bound (decimals_within bound) inputs place name is rows all)
        (let fewer : length (filter_map (λ row. cell decimal_in row place) rows) ≤ length rows = length-filter_map-le (λ row. cell decimal_in row place) rows in omega arith);
    fits = λ r stands. (
      let below : place < length inputs = place_below inputs place (record { name = name; column_type = of_size (Number numbers.Decimal) bound }) is in let named : length r.names ≡ length inputs = stands.named in omega arith,
      summable bound (filter_map (λ row. cell decimal_in row place) r.rows) (length r.rows)
          (numbers_within decimal_in (of_size (Number numbers.Decimal) bound) bound (decimals_within bound) inputs place name is r.rows stands.each) small stands.few,
    );
  }

  kind_good : (kind : ColumnKind) (size : ℕ) → slice_get inputs place ≡ Some (record { name = name; column_type = of_size kind size }) → Told (IsGood inputs) (kind_sum place kind size)
  kind_good (Number numbers.Integer) b is =
      told_within (IsGood inputs) (b * MOST_ROWS) (SumOfIntegers place, of_size (Number numbers.Integer) (b * MOST_ROWS)) (integer_sum_good b is)
  kind_good Text b is = tt
  kind_good (Number numbers.Boolean) b is = tt
  kind_good (Number numbers.Date) b is = tt
  kind_good (Number numbers.Decimal) b is =
      told_within (IsGood inputs) (b * MOST_ROWS) (SumOfDecimals place, of_size (Number numbers.Decimal) (b * MOST_ROWS)) (decimal_sum_good b is)

  sum_good : (type : ColumnType) → slice_get inputs place ≡ Some (record { name = name; column_type = type }) → Told (IsGood inputs) (sum_typing place type)
  sum_good type is = kind_good type.kind type.size is

  module _ (type : ColumnType) (is : slice_get inputs place ≡ Some (record { name = name; column_type = type })) where
    there : (r : ResultOf) → Stands inputs r → place < length r.names
    there r stands =
        let below : place < length inputs = place_below inputs place (record { name = name; column_type = type }) is in
        let named : length r.names ≡ length inputs = stands.named in
        omega arith

    method_good : (m : AggregationMethod) → Told (IsGood inputs) (method_typing m place type)
    method_good method.Sum = sum_good type is
    method_good method.Min = record { value = λ rows all few. least_fits type (present_values place rows) (values_fit type inputs place name is rows all); fits = there }
    method_good method.Max = record { value = λ rows all few. greatest_fits type (present_values place rows) (values_fit type inputs place name is rows all); fits = there }
    method_good method.CountDistinct = record { value = λ rows all few. omega (arith, distinct_few place rows); fits = there }

method_at_good : (inputs : List InputOf) (m : AggregationMethod) (place : ℕ) (o : Option InputOf) → slice_get inputs place ≡ o → Told (IsGood inputs) (method_at m place o)
method_at_good inputs m place None is = tt
method_at_good inputs m place (Some c) is = method_good inputs place c.name c.column_type is m

-- ---- items

abbrev pub IsGoodItem : List InputOf → ItemOf → Type 0
IsGoodItem inputs x = IsGood inputs (x.aggregate, x.column_type)

free_good : (inputs : List InputOf) (earlier : List ItemOf) (made : Aggregate × ColumnType) (alias : List ℕ) → IsGood inputs made → Told (IsGoodItem inputs) (free_typing inputs earlier made alias)
free_good inputs earlier made alias h = elim (cases_Bool (has_name inputs alias || has_alias earlier alias)) [ inl e ↦ rw e tt | inr e ↦ rw e h ]

count_good : (inputs : List InputOf) → IsGood inputs (Count, count_type)
count_good inputs = record { value = λ rows all few. omega arith; fits = λ r stands. tt }

item_good : (inputs : List InputOf) (earlier : List ItemOf) (item : AggregateItemOf) → Told (IsGoodItem inputs) (item_typing inputs earlier item)
item_good inputs earlier (aggregated name m alias) =
    told_then (IsGood inputs) (IsGoodItem inputs) (computed_typing inputs name m) (λ made. free_typing inputs earlier made alias)
    (method_at_good inputs m (place_of inputs name) (slice_get inputs (place_of inputs name)) refl) (λ made k. free_good inputs earlier made alias k)
item_good inputs earlier (counted alias) = free_good inputs earlier (Count, count_type) alias (count_good inputs)

abbrev pub AreGood : List InputOf → List ItemOf → Type 0
AreGood inputs xs = AllByRecursion (IsGoodItem inputs) xs

pub items_good : (inputs : List InputOf) (earlier : List ItemOf) (items : List AggregateItemOf) → Told (AreGood inputs) (items_typing inputs earlier items)
items_good inputs earlier [] = tt
items_good inputs earlier (item ∷ items) =
    told_then (IsGoodItem inputs) (AreGood inputs) (item_typing inputs earlier item) (λ x. items_typing inputs (earlier ++ x ∷ []) items >>= λ xs. Ok (x ∷ xs)) (item_good inputs earlier item)
    (λ x k. told_then (AreGood inputs) (AreGood inputs) (items_typing inputs (earlier ++ x ∷ []) items) (λ xs. Ok (x ∷ xs)) (items_good inputs (earlier ++ x ∷ []) items) (λ xs l. (k, l)))

pub optional_good : (inputs : List InputOf) (items : Option (List AggregateItemOf)) → Told (AreGood inputs) (optional_items inputs items)
optional_good inputs None = tt
optional_good inputs (Some items) = items_good inputs [] items

-- ---- the aggregates of items

module _ (inputs : List InputOf) where
  pub computed_row : (xs : List ItemOf) → AreGood inputs xs → (rows : List (List CellValue)) → AllByRecursion (IsRowOf inputs) rows → length rows ≤ MOST_ROWS
      → IsRowOf (map item_column xs) (computed_values (map named_of xs) rows)
  computed_row [] good rows all few = tt
  computed_row (x ∷ xs) good rows all few = (good.0.value rows all few, computed_row xs good.1 rows all few)

  pub aggregates_fit : (xs : List ItemOf) → AreGood inputs xs → (r : ResultOf) → Stands inputs r → AllByRecursion (λ a. AggregateFits r a.aggregate) (map named_of xs)
  aggregates_fit [] good r stands = tt
  aggregates_fit (x ∷ xs) good r stands = (good.0.fits r stands, aggregates_fit xs good.1 r stands)
