-- What rows have in a column, and the one of two values that is less, or greater (OData Data Aggregation 4.0, section 3.1.3).
use Rattle.std.specs.Prelude.{ℕ, ℤ, Bool, List, if◌then◌else◌}
use Rattle.std.specs.List.{filter_map}
use Rattle.std.specs.Ordering.{is_lt}
use Rattle.cell_types.specs.Value.{CellValue, value_cmp}
use Rattle.row_eval.specs.Row.{cell, decimal_in, integer_in}
use Rattle.odata_query.specs.declared.aggregate.Aggregate.{Aggregate}
use Rattle.odata_query.specs.declared.aggregate.Aggregate.TheVariants.{Max, Min}
use Rattle.query_meaning.specs.Apply.{is_value}
use Rattle.aggregate_rows.specs.declared.computed.Extreme.{Extreme}
use Rattle.aggregate_rows.specs.declared.computed.Extreme.TheVariants.{Greatest, Least}

-- the integers that rows have in a column, and the decimals
abbrev pub integers_in : ℕ → List (List CellValue) → List ℤ
integers_in place rows = filter_map (λ row. cell integer_in row place) rows

abbrev pub decimals_in : ℕ → List (List CellValue) → List ℤ
decimals_in place rows = filter_map (λ row. cell decimal_in row place) rows

-- the aggregate that is an extreme of a column
abbrev pub aggregate_of : Extreme → ℕ → Aggregate
aggregate_of Least place = Min place
aggregate_of Greatest place = Max place

-- a value that is less than another, or greater
abbrev pub value_wins : Extreme → CellValue → CellValue → Bool
value_wins Least v w = is_lt (value_cmp v w)
value_wins Greatest v w = is_lt (value_cmp w v)

-- the one of two values that wins, the first of equal ones: null is none of them
abbrev pub better_value : Extreme → CellValue → CellValue → CellValue
better_value extreme v w = if is_value v then (if is_value w then (if value_wins extreme w v then w else v) else v) else w
