-- What a table holds: a schema, the number of its rows, the cells of each column, and keys.
use Rattle.std.specs.Prelude.{ℕ, zero, suc, List, [], ◌∷◌, map, drop, slice_index_or}
use Rattle.cell_types.specs.Value.{CellValue, null}
use Rattle.csvw_meta.specs.Schema.{SchemaOf, schema_view}
use Rattle.table_store.specs.declared.table.Table.TheInside.{Inside}
use Rattle.table_store.specs.Table.{TableOf, keys_of}
use Rattle.column_blocks.specs.TypedColumn.{AreTyped, ColumnCells}
use Rattle.key_index.specs.Keys.{AreColumns, AreKeysOf}
use Rattle.table_store.specs.Fits.{HasTableRows}
use Rattle.table_store.specs.Summaries.{cells_by_column, AreSummariesOf}

-- the rows of columns, of the given count: the first cell of each column, and then the rows of the cells after it
abbrev pub rows_of_columns : ℕ → List (List CellValue) → List (List CellValue)
rows_of_columns zero columns = []
rows_of_columns (suc rows) columns = map (λ cells. slice_index_or cells 0 null) columns ∷ rows_of_columns rows (map (drop 1) columns)

-- the table of a schema and of `rows` rows of columns
abbrev pub table_of : SchemaOf → ℕ → List ColumnCells → TableOf
table_of schema rows columns = record { schema = schema; rows = rows_of_columns rows (cells_by_column columns) }

abbrev pub table_view : Inside → TableOf
table_view table = table_of (schema_view table.schema) table.count table.columns.items

-- there is a column for each of the schema's, of its datatype, with a cell for each row, the places of the key are those of columns, the keys are
-- those of the rows, the values fit their columns, and each block has its summary
pub record IsWhole (table : Inside) : Type 0 where
  pub columns : AreTyped (schema_view table.schema).columns (table_view table).rows table.columns.items
  pub places : AreColumns (schema_view table.schema).key (schema_view table.schema).columns
  pub keys : AreKeysOf table.keys (keys_of (table_view table))
  pub fit : HasTableRows (table_view table)
  pub summaries : AreSummariesOf (table_view table) table.summaries.items
