-- Rows of a table and of an input, numbers whose sums fit 128 bits, and queries that were typed for a table.
use Rattle.std.specs.Prelude.{◌≡◌, ℕ, ℤ, ◌*◌, ◌^◌, ◌≤◌, List, length, Ok, IfSome, unsigned_abs}
use Rattle.std.specs.List.{All}
use Rattle.cell_types.specs.Value.{CellValue}
use Rattle.csvw_meta.specs.Schema.{SchemaOf}
use Rattle.csvw_meta.specs.declared.limits.TheConstants.{MOST_FILE_BYTES}
use Rattle.odata_types.specs.Columns.{InputOf}
use Rattle.odata_query.specs.declared.aggregate.TheConstants.{MOST_ROWS}
use Rattle.odata_query.specs.Query.{QueryOf, TypedOf, query_typing}
use Rattle.odata_types.specs.Input.{IsQueried, IsQueriedItem, IsQueriedTransformation, IsRowOf, IsTableRow}

-- numbers of at most `rows` rows, of which the sums, also of some of them, fit 128 bits
pub record AreSummable (numbers : List ℤ) (rows : ℕ) : Type 0 where
  pub bound : ℕ
  pub each : All (λ n. unsigned_abs n ≤ bound) numbers
  pub small : bound * rows ≤ 2 ^ 126

-- the rows of some table: each fits the columns, and there are no more than a file has bytes
pub record AreTableRows (schema : SchemaOf) (rows : List (List CellValue)) : Type 0 where
  pub each : All (IsTableRow schema.columns) rows
  pub count : length rows ≤ MOST_FILE_BYTES

-- rows of an input, no more than 2 to the 30
pub record AreRowsOf (inputs : List InputOf) (rows : List (List CellValue)) : Type 0 where
  pub each : All (IsRowOf inputs) rows
  pub count : length rows ≤ MOST_ROWS

-- ---- queries that were typed

-- each expression of the query has few nodes and short texts
pub record AreQueried (q : QueryOf) : Type 0 where
  pub apply : All IsQueriedTransformation q.apply
  pub filter : IfSome q.filter IsQueried
  pub order : All IsQueriedItem q.order

-- the query with types is that of a query on the table
abbrev pub IsTypedFor : SchemaOf → TypedOf → Type 0
IsTypedFor schema q = (query : QueryOf) × AreQueried query × (query_typing schema query ≡ Ok q)
