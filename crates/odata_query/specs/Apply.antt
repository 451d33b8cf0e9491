-- The types of `$apply` (OData Data Aggregation 4.0, section 3): the columns of each result, or the first cause why it has none. Transformations come in
-- turn; in `groupby` the names come before the items; of an item its column comes first, then that its method fits, then that its numbers may
-- grow too large, then its alias.
use Rattle.std.specs.Prelude.{ℕ, ◌*◌, Bool, ◌||◌, List, [], ◌∷◌, ◌++◌, map, nat_eq, Option, Some, None, Result, Ok, Err, if◌then◌else◌, slice_get}
use Rattle.std.specs.List.{filter_map, list_any}
use Rattle.std.specs.Str.{bytes_eq}
use Rattle.odata_parse.specs.declared.tree.AggregationMethod.{AggregationMethod}
use Rattle.odata_parse.specs.declared.tree.AggregationMethod.TheVariants as method
use Rattle.odata_parse.specs.Tree.{AggregateItemOf, aggregated, counted, TransformationOf, filter_by, aggregate, group_by}
use Rattle.odata_types.specs.declared.fault.TypeFault.{TypeFault}
use Rattle.odata_types.specs.declared.fault.TypeFault.TheVariants.{UnknownName, Mismatch, AliasTaken}
use Rattle.odata_types.specs.declared.types.ColumnType.{ColumnType}
use Rattle.cell_types.specs.declared.kind.ColumnKind.{ColumnKind}
use Rattle.cell_types.specs.declared.kind.ColumnKind.TheVariants.{Number}
use Rattle.cell_types.specs.declared.kind.NumberKind.TheVariants as numbers
use Rattle.odata_types.specs.Columns.{of_size, InputOf}
use Rattle.odata_types.specs.Result.{◌>>=◌}
use Rattle.odata_types.specs.Typing.{filter_typing, place_of, within}
use Rattle.odata_query.specs.declared.aggregate.Aggregate.{Aggregate}
use Rattle.odata_query.specs.declared.aggregate.Aggregate.TheVariants.{Count, SumOfIntegers, SumOfDecimals, Min, Max, CountDistinct}
use Rattle.odata_query.specs.declared.aggregate.TheConstants.{COUNT_SIZE, MOST_ROWS}
use Rattle.odata_query.specs.Aggregate.{ItemOf, NamedAggregateOf, TypedTransformationOf, filter_rows, aggregate_rows, group_rows}
use Rattle.odata_query.specs.FirstSeen.{first_seen}
use Rattle.odata_query.specs.Selection.{has_name}

-- ---- items (section 3.2.1)

-- a sum of numbers: an input has at most 2 to the 30 rows
abbrev pub kind_sum : ℕ → ColumnKind → ℕ → Result (Aggregate × ColumnType) TypeFault
kind_sum place (Number numbers.Integer) size = within (size * MOST_ROWS) (SumOfIntegers place, of_size (Number numbers.Integer) (size * MOST_ROWS))
kind_sum place (Number numbers.Decimal) size = within (size * MOST_ROWS) (SumOfDecimals place, of_size (Number numbers.Decimal) (size * MOST_ROWS))
kind_sum place kind size = Err Mismatch

abbrev pub sum_typing : ℕ → ColumnType → Result (Aggregate × ColumnType) TypeFault
sum_typing place type = kind_sum place type.kind type.size

-- a number of rows
abbrev pub count_type : ColumnType
count_type = of_size (Number numbers.Integer) COUNT_SIZE

-- what a method computes of a column, and its type
abbrev pub method_typing : AggregationMethod → ℕ → ColumnType → Result (Aggregate × ColumnType) TypeFault
method_typing method.Sum place type = sum_typing place type
method_typing method.Min place type = Ok (Min place, type)
method_typing method.Max place type = Ok (Max place, type)
method_typing method.CountDistinct place type = Ok (CountDistinct place, count_type)

abbrev pub method_at : AggregationMethod → ℕ → Option InputOf → Result (Aggregate × ColumnType) TypeFault
method_at m place None = Err UnknownName
method_at m place (Some c) = method_typing m place c.column_type

abbrev pub computed_typing : List InputOf → List ℕ → AggregationMethod → Result (Aggregate × ColumnType) TypeFault
computed_typing inputs name m = method_at m (place_of inputs name) (slice_get inputs (place_of inputs name))

abbrev pub has_alias : List ItemOf → List ℕ → Bool
has_alias earlier alias = list_any (λ x. bytes_eq alias x.alias) earlier

-- an alias that no column of the input and no earlier item has
abbrev pub free_typing : List InputOf → List ItemOf → Aggregate × ColumnType → List ℕ → Result ItemOf TypeFault
free_typing inputs earlier made alias =
    if has_name inputs alias || has_alias earlier alias then Err AliasTaken else Ok (record { alias = alias; aggregate = made.0; column_type = made.1 })

abbrev pub item_typing : List InputOf → List ItemOf → AggregateItemOf → Result ItemOf TypeFault
item_typing inputs earlier (aggregated name m alias) = computed_typing inputs name m >>= λ made. free_typing inputs earlier made alias
item_typing inputs earlier (counted alias) = free_typing inputs earlier (Count, count_type) alias

-- items one after another, after earlier ones
abbrev pub items_typing : List InputOf → List ItemOf → List AggregateItemOf → Result (List ItemOf) TypeFault
items_typing inputs earlier [] = Ok []
items_typing inputs earlier (item ∷ items) = item_typing inputs earlier item >>= λ x. items_typing inputs (earlier ++ x ∷ []) items >>= λ xs. Ok (x ∷ xs)

-- the aggregate of an item, and its column in the result
abbrev pub named_of : ItemOf → NamedAggregateOf
named_of x = record { alias = x.alias; aggregate = x.aggregate }

abbrev pub item_column : ItemOf → InputOf
item_column x = record { name = x.alias; column_type = x.column_type }

-- ---- groups (section 3.2.3)

abbrev pub place_at : ℕ → Option InputOf → Result ℕ TypeFault
place_at place None = Err UnknownName
place_at place (Some c) = Ok place

abbrev pub place_typing : List InputOf → List ℕ → Result ℕ TypeFault
place_typing inputs name = place_at (place_of inputs name) (slice_get inputs (place_of inputs name))

-- the numbers of the columns with these names
abbrev pub places_typing : List InputOf → List (List ℕ) → Result (List ℕ) TypeFault
places_typing inputs [] = Ok []
places_typing inputs (name ∷ names) = place_typing inputs name >>= λ place. places_typing inputs names >>= λ places. Ok (place ∷ places)

-- a repeated name counts at its first place
abbrev pub grouped_places : List InputOf → List (List ℕ) → Result (List ℕ) TypeFault
grouped_places inputs names = places_typing inputs names >>= λ places. Ok (first_seen nat_eq places)

abbrev pub columns_at : List InputOf → List ℕ → List InputOf
columns_at inputs places = filter_map (λ place. slice_get inputs place) places

-- ---- transformations: each is given the columns of the result before it

abbrev pub optional_items : List InputOf → Option (List AggregateItemOf) → Result (List ItemOf) TypeFault
optional_items inputs None = Ok []
optional_items inputs (Some items) = items_typing inputs [] items

-- the columns of a result are those that are grouped by, and then the aliases
abbrev pub transformation_typing : List InputOf → TransformationOf → Result (TypedTransformationOf × List InputOf) TypeFault
transformation_typing inputs (filter_by e) = filter_typing inputs e >>= λ t. Ok (filter_rows t, inputs)
transformation_typing inputs (aggregate items) = items_typing inputs [] items >>= λ xs. Ok (aggregate_rows (map named_of xs), map item_column xs)
transformation_typing inputs (group_by names items) = grouped_places inputs names >>= λ places. optional_items inputs items >>= λ xs.
    Ok (group_rows places (map named_of xs), columns_at inputs places ++ map item_column xs)

abbrev pub apply_typing : List InputOf → List TransformationOf → Result (List TypedTransformationOf × List InputOf) TypeFault
apply_typing inputs [] = Ok ([], inputs)
apply_typing inputs (t ∷ ts) = transformation_typing inputs t >>= λ x. apply_typing x.1 ts >>= λ xs. Ok (x.0 ∷ xs.0, xs.1)
