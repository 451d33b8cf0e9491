-- The meaning of a query on a table (OData 4.01 URL Conventions, sections 4.3, 4.8 and 5.1; OData Data Aggregation 4.0, section 3.16): `$apply`,
-- `$filter`, the count, `$orderby`, `$skip`, `$top` and `$select`, each on the whole list of rows that those before it give.
use Rattle.std.specs.Prelude.{ℕ, Bool, true, false, List, map, length, take, drop, find, Option, Some, None, option_map, option_and_then}
use Rattle.cell_types.specs.Value.{CellValue}
use Rattle.csvw_meta.specs.Schema.{SchemaOf}
use Rattle.odata_query.specs.Query.{TypedOf}
use Rattle.query_meaning.specs.Apply.{applied, applied_names, names_at, same_values, values_at}
use Rattle.query_meaning.specs.Order.{ordered}
use Rattle.query_meaning.specs.Query.{filtered}

-- rows under names, and how many rows there are where that was asked for
pub record ResultOf : Type 0 where
  pub names : List (List ℕ)
  pub rows : List (List CellValue)
  pub count : Option ℕ

-- a result, or the number of rows, or the row with a key under names, or no row where none has the key
pub data MeaningOf : Type 0 where
  result : ResultOf → MeaningOf
  number : ℕ → MeaningOf
  single : List (List ℕ) → List CellValue → MeaningOf
  no_row : MeaningOf

-- the names of a table's columns
abbrev pub table_names : SchemaOf → List (List ℕ)
table_names schema = map (λ column. column.name) schema.columns

-- the columns that `$select` asks for: all of them without it
abbrev pub selected_names : Option (List ℕ) → List (List ℕ) → List (List ℕ)
selected_names None names = names
selected_names (Some places) names = names_at places names

abbrev pub selected_values : Option (List ℕ) → List CellValue → List CellValue
selected_values None row = row
selected_values (Some places) row = values_at places row

-- all but the first `$skip` rows, and of these the first `$top`
abbrev pub first_rows : Option ℕ → List (List CellValue) → List (List CellValue)
first_rows None rows = rows
first_rows (Some most) rows = take most rows

abbrev pub skipped_and_topped : TypedOf → List (List CellValue) → List (List CellValue)
skipped_and_topped q rows = first_rows q.top (drop q.skip rows)

-- the number of rows, where `$count=true` asks for it
abbrev pub asked_count : Bool → List (List CellValue) → Option ℕ
asked_count true rows = Some (length rows)
asked_count false rows = None

-- the rows of `$apply` and `$filter`; None is a division by zero, as everywhere below
abbrev pub filtered_rows : TypedOf → List (List CellValue) → Option (List (List CellValue))
filtered_rows q rows = option_and_then (filtered q.filter) (applied q.apply rows)

abbrev pub result_names : SchemaOf → TypedOf → List (List ℕ)
result_names schema q = selected_names q.select (applied_names q.apply (table_names schema))

-- of the rows that are kept all are counted and put in order, and then a piece is taken
abbrev pub query_result : SchemaOf → TypedOf → List (List CellValue) → Option ResultOf
query_result schema q rows = option_and_then (λ kept. option_map (λ sorted. record {
  names = result_names schema q;
  rows = map (selected_values q.select) (skipped_and_topped q sorted);
  count = asked_count q.count kept;
}) (ordered q.order kept)) (filtered_rows q rows)

-- the first row with these values in the columns of the table's key
abbrev pub keyed_row : SchemaOf → List CellValue → List (List CellValue) → Option (List CellValue)
keyed_row schema values rows = find (λ row. same_values values (values_at schema.key row)) rows

abbrev pub row_meaning : SchemaOf → TypedOf → Option (List CellValue) → MeaningOf
row_meaning schema q None = no_row
row_meaning schema q (Some row) = single (selected_names q.select (table_names schema)) (selected_values q.select row)

-- without a key: the number of rows, for which nothing is put in order, or the result
abbrev pub rows_meaning : Bool → SchemaOf → TypedOf → List (List CellValue) → Option MeaningOf
rows_meaning true schema q rows = option_map (λ kept. number (length kept)) (filtered_rows q rows)
rows_meaning false schema q rows = option_map result (query_result schema q rows)

abbrev pub keyed_meaning : Option (List CellValue) → SchemaOf → TypedOf → List (List CellValue) → Option MeaningOf
keyed_meaning None schema q rows = rows_meaning q.counting schema q rows
keyed_meaning (Some values) schema q rows = Some (row_meaning schema q (keyed_row schema values rows))

abbrev pub query_meaning : SchemaOf → TypedOf → List (List CellValue) → Option MeaningOf
query_meaning schema q rows = keyed_meaning q.key schema q rows
