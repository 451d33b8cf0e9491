-- The rows of `groupby` (OData Data Aggregation 4.0, section 3.2.3).
use Rattle.std.specs.Prelude.{ℕ, List, ◌++◌, map}
use Rattle.cell_types.specs.Value.{CellValue}
use Rattle.odata_query.specs.Aggregate.{NamedAggregateOf}
use Rattle.query_meaning.specs.Apply.{computed_values, group_values, rows_of_group}

-- for each group its values, and after them what is computed of its rows
abbrev pub grouped_rows : List ℕ → List NamedAggregateOf → List (List CellValue) → List (List CellValue)
grouped_rows places aggregates rows = map (λ values. values ++ computed_values aggregates (rows_of_group places rows values)) (group_values places rows)
