-- What is kept of rows while they come, for each aggregate (OData Data Aggregation 4.0, section 3.1.3).
use Rattle.std.specs.Prelude.{◌≡◌, ◌<◌, ◌++◌, ◌^◌, ℕ, List, [], length, map, slice_index_or}
use Rattle.std.specs.List.{filter_map, AllByRecursion, AllZip}
use Rattle.cell_types.specs.Value.{CellValue, value_view}
use Rattle.cell_types.specs.declared.value.Value.{Value}
use Rattle.odata_query.specs.declared.aggregate.Aggregate.{Aggregate}
use Rattle.odata_query.specs.declared.aggregate.Aggregate.TheVariants.{Count, SumOfIntegers, SumOfDecimals, Min, Max, CountDistinct}
use Rattle.query_meaning.specs.Apply.{computed_value, present_values}
use Rattle.query_meaning.specs.Fitting.{AreSummable}
use Rattle.aggregate_rows.specs.declared.distinct.Distinct.{Distinct}
use Rattle.aggregate_rows.specs.Computed.{decimals_in, integers_in}
use Rattle.aggregate_rows.specs.Distinct.{distinct_place, HoldsDistinct}
use Rattle.aggregate_rows.specs.Table.{results_from, GroupOf}

-- the values that rows have in a column, each once
abbrev pub HasSet : List (List CellValue) → ℕ → Distinct → Type 0
HasSet rows place set = HoldsDistinct set (present_values place rows)

-- a group has what each aggregate computes of rows, and the different values of each column where they are counted
pub record HasResults (aggregates : List Aggregate) (rows : List (List CellValue)) (group : GroupOf) : Type 0 where
  pub results : AllZip (λ a v. v ≡ computed_value rows a) aggregates group.results
  pub sets : AllZip (HasSet rows) (filter_map distinct_place aggregates) group.sets

-- a set of no rows came for each column whose different values are counted
abbrev pub HasSetsMore : List Aggregate → List Distinct → List Distinct → Type 0
HasSetsMore aggregates old new = (made : List Distinct) × (new ≡ old ++ made) × AllZip (HasSet []) (filter_map distinct_place aggregates) made

-- an aggregate can be computed of rows of `width` columns: its column is there, the number of the rows fits 64 bits, and each sum fits 128
abbrev pub FitsAll : ℕ → List (List CellValue) → Aggregate → Type 0
FitsAll width rows Count = length rows < 2 ^ 64
FitsAll width rows (SumOfIntegers place) = (place < width) × AreSummable (integers_in place rows) (length rows)
FitsAll width rows (SumOfDecimals place) = (place < width) × AreSummable (decimals_in place rows) (length rows)
FitsAll width rows (Min place) = place < width
FitsAll width rows (Max place) = place < width
FitsAll width rows (CountDistinct place) = place < width

-- more rows may join those of which a value is computed: the aggregate can be computed of all of them
pub record MayTally (aggregate : Aggregate) (width : ℕ) (old : CellValue) (more : List (List CellValue)) : Type 0 where
  pub rows : List (List CellValue)
  pub is : old ≡ computed_value rows aggregate
  pub fits : FitsAll width (rows ++ more) aggregate

-- more rows joined them
abbrev pub Tallies : Aggregate → CellValue → CellValue → List (List CellValue) → Type 0
Tallies aggregate old new more = (rows : List (List CellValue)) → old ≡ computed_value rows aggregate → new ≡ computed_value (rows ++ more) aggregate

-- more rows joined those of a set, and the value is how many different ones there are
abbrev pub JoinsSet : ℕ → Distinct → Distinct → List (List CellValue) → Value → Type 0
JoinsSet place old new more value = (rows : List (List CellValue)) → HasSet rows place old → HasSet (rows ++ more) place new × (value_view value ≡ computed_value (rows ++ more) (CountDistinct place))

-- more rows may join those of a group
pub record MayTallyEach (aggregates : List Aggregate) (width : ℕ) (old : GroupOf) (more : List (List CellValue)) : Type 0 where
  pub rows : List (List CellValue)
  pub has : HasResults aggregates rows old
  pub fits : AllByRecursion (FitsAll width (rows ++ more)) aggregates

abbrev pub TalliesEach : List Aggregate → GroupOf → GroupOf → List (List CellValue) → Type 0
TalliesEach aggregates old new more = (rows : List (List CellValue)) → HasResults aggregates rows old → HasResults aggregates (rows ++ more) new

-- and those of a group whose results are the values from a place on
abbrev pub TalliesFrom : ℕ → List Aggregate → List CellValue → List Distinct → List CellValue → List Distinct → List (List CellValue) → Type 0
TalliesFrom from aggregates values sets new_values new_sets more = TalliesEach aggregates (results_from from aggregates values sets) (results_from from aggregates new_values new_sets) more

-- the aggregates at places
abbrev pub aggregates_at : List ℕ → List Aggregate → List Aggregate
aggregates_at shown aggregates = map (λ place. slice_index_or aggregates place Count) shown
