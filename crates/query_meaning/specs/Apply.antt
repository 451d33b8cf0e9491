-- The transformations of `$apply` on rows (OData Data Aggregation 4.0, section 3).
pub use Rattle.cell_types.specs.Rows.{value_at, values_at, same_values}
use Rattle.std.specs.Prelude.{ℕ, ℤ, pos, ◌+ℤ◌, Bool, true, false, List, [], ◌∷◌, ◌++◌, map, length, get_or, Option, Some, option_and_then, if◌then◌else◌}
use Rattle.std.specs.List.{filter, filter_map}
use Rattle.std.specs.Ordering.{is_lt}
use Rattle.std.specs.Set.{distinct_count}
use Rattle.cell_types.specs.Value.{CellValue, null, integer, decimal, value_cmp, value_eq}
use Rattle.row_eval.specs.Row.{cell, integer_in, decimal_in}
use Rattle.odata_query.specs.declared.aggregate.Aggregate.{Aggregate}
use Rattle.odata_query.specs.declared.aggregate.Aggregate.TheVariants.{Count, SumOfIntegers, SumOfDecimals, Min, Max, CountDistinct}
use Rattle.odata_query.specs.Aggregate.{NamedAggregateOf, TypedTransformationOf, filter_rows, aggregate_rows, group_rows}
use Rattle.odata_query.specs.FirstSeen.{first_seen}
use Rattle.query_meaning.specs.Filter.{passing}

abbrev pub is_value : CellValue → Bool
is_value null = false
is_value _ = true

-- ---- aggregates (section 3.1.3): each passes over nulls

-- the values of a column that are not null
abbrev pub present_values : ℕ → List (List CellValue) → List CellValue
present_values place rows = filter is_value (map (λ row. value_at row place) rows)

abbrev pub integer_sum : List ℤ → ℤ
integer_sum [] = pos 0
integer_sum (n ∷ ns) = n +ℤ integer_sum ns

-- a sum of nothing is null
abbrev pub sum_value : (ℤ → CellValue) → List ℤ → CellValue
sum_value kind [] = null
sum_value kind (n ∷ ns) = kind (integer_sum (n ∷ ns))

-- the least and the greatest of values; of nothing it is null
abbrev pub least_value : List CellValue → CellValue
least_value [] = null
least_value (v ∷ []) = v
least_value (v ∷ w ∷ vs) = if is_lt (value_cmp (least_value (w ∷ vs)) v) then least_value (w ∷ vs) else v

abbrev pub greatest_value : List CellValue → CellValue
greatest_value [] = null
greatest_value (v ∷ []) = v
greatest_value (v ∷ w ∷ vs) = if is_lt (value_cmp v (greatest_value (w ∷ vs))) then greatest_value (w ∷ vs) else v

-- what is computed of rows
abbrev pub computed_value : List (List CellValue) → Aggregate → CellValue
computed_value rows Count = integer (pos (length rows))
computed_value rows (SumOfIntegers place) = sum_value integer (filter_map (λ row. cell integer_in row place) rows)
computed_value rows (SumOfDecimals place) = sum_value decimal (filter_map (λ row. cell decimal_in row place) rows)
computed_value rows (Min place) = least_value (present_values place rows)
computed_value rows (Max place) = greatest_value (present_values place rows)
computed_value rows (CountDistinct place) = integer (pos (distinct_count value_eq (present_values place rows)))

abbrev pub computed_values : List NamedAggregateOf → List (List CellValue) → List CellValue
computed_values aggregates rows = map (λ a. computed_value rows a.aggregate) aggregates

-- ---- groups (section 3.2.3): rows with the same values in some columns; null is a value of its own here

-- the values of the groups, in the order of their first rows
abbrev pub group_values : List ℕ → List (List CellValue) → List (List CellValue)
group_values places rows = first_seen same_values (map (values_at places) rows)

-- the rows of a group, in their order
abbrev pub rows_of_group : List ℕ → List (List CellValue) → List CellValue → List (List CellValue)
rows_of_group places rows values = filter (λ row. same_values values (values_at places row)) rows

-- ---- transformations: None is a division by zero

-- `aggregate` gives one row, of no rows too; `groupby` a row for each group, of its values and then its aggregates
abbrev pub transformed : TypedTransformationOf → List (List CellValue) → Option (List (List CellValue))
transformed (filter_rows e) rows = passing e rows
transformed (aggregate_rows aggregates) rows = Some (computed_values aggregates rows ∷ [])
transformed (group_rows places aggregates) rows =
    Some (map (λ values. values ++ computed_values aggregates (rows_of_group places rows values)) (group_values places rows))

-- each on the result of those before it
abbrev pub applied : List TypedTransformationOf → List (List CellValue) → Option (List (List CellValue))
applied [] rows = Some rows
applied (t ∷ ts) rows = option_and_then (applied ts) (transformed t rows)

-- the names of the columns with these numbers
abbrev pub names_at : List ℕ → List (List ℕ) → List (List ℕ)
names_at places names = map (λ place. get_or names place []) places

-- the names of the result's columns
abbrev pub transformed_names : TypedTransformationOf → List (List ℕ) → List (List ℕ)
transformed_names (filter_rows e) names = names
transformed_names (aggregate_rows aggregates) names = map (λ a. a.alias) aggregates
transformed_names (group_rows places aggregates) names = names_at places names ++ map (λ a. a.alias) aggregates

abbrev pub applied_names : List TypedTransformationOf → List (List ℕ) → List (List ℕ)
applied_names [] names = names
applied_names (t ∷ ts) names = applied_names ts (transformed_names t names)
