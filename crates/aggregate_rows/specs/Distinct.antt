-- The distinct values of a column (OData Data Aggregation 4.0, section 3.1.3.6).
use Rattle.std.specs.Prelude.{◌≡◌, ◌++◌, ◌∷◌, ◌+ℤ◌, ℕ, pos, true, false, filter, List, [], Option, None, Some, length, map, slice_index_or}
use Rattle.std.specs.List.{IsDistinct, list_any}
use Rattle.std.specs.Set.{distinct_count}
use Rattle.cell_types.specs.Kind.{cell_of}
use Rattle.cell_types.specs.Value.{CellValue, value_eq, value_view}
use Rattle.odata_query.specs.declared.aggregate.Aggregate.{Aggregate}
use Rattle.odata_query.specs.declared.aggregate.Aggregate.TheVariants.{CountDistinct}
use Rattle.query_meaning.specs.Apply.{is_value, present_values}
use Rattle.aggregate_rows.specs.declared.distinct.Distinct.{Distinct}

-- the column whose different values an aggregate counts
abbrev pub distinct_place : Aggregate → Option ℕ
distinct_place (CountDistinct place) = Some place
distinct_place _ = None

-- values have each of some others once
pub record HasDistinct (keys values : List CellValue) : Type 0 where
  pub distinct : IsDistinct value_eq keys
  pub count : length keys ≡ distinct_count value_eq values
  pub same : (v : CellValue) → list_any (value_eq v) keys ≡ list_any (value_eq v) values

-- values have each of some others once, and so do they have the value of each number that has a mark
pub record HoldsDistinct (distinct : Distinct) (values : List CellValue) : Type 0 where
  pub has : HasDistinct (map value_view distinct.values.keys) values
  pub marked : (mark : ℕ) → slice_index_or distinct.marks.items mark false ≡ true
      → list_any (value_eq (cell_of distinct.kind (Some (distinct.span.least +ℤ pos mark)))) values ≡ true

-- what has each of some values once has each of these and of more
abbrev pub JoinsDistinct : List CellValue → List CellValue → List CellValue → Type 0
JoinsDistinct old new more = (seen : List CellValue) → HasDistinct old seen → HasDistinct new (seen ++ more)

-- so of one value more, and of the values of rows in a column
abbrev pub JoinsValue : Distinct → Distinct → CellValue → Type 0
JoinsValue old new value = (seen : List CellValue) → HoldsDistinct old seen → HoldsDistinct new (seen ++ filter is_value (value ∷ []))

abbrev pub JoinsValues : ℕ → Distinct → Distinct → List (List CellValue) → Type 0
JoinsValues place old new more = (rows : List (List CellValue)) → HoldsDistinct old (present_values place rows) → HoldsDistinct new (present_values place (rows ++ more))
