-- The rows of a table: each value is one that its column may have, no text is long, and there are no more rows than a file has bytes.
pub use Rattle.cell_types.specs.Rows.{IsShortValue, IsTableRow}
use Rattle.std.specs.Prelude.{◌≤◌, length}
use Rattle.std.specs.List.{All}
use Rattle.csvw_meta.specs.declared.limits.TheConstants.{MOST_FILE_BYTES}
use Rattle.table_store.specs.Table.{TableOf}

-- so are all rows of a table, of which there are no more than the bytes that a file may have
pub record HasTableRows (table : TableOf) : Type 0 where
  pub each : All (IsTableRow table.schema.columns) table.rows
  pub count : length table.rows ≤ MOST_FILE_BYTES
