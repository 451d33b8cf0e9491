-- The keys of the first rows are read.
use Rattle.std.proofs.Common.{◌≡◌, map}
use Rattle.column_blocks.specs.ColumnReader.{cells_read}
use Rattle.csvw_meta.specs.Schema.{schema_view}
use Rattle.key_index.specs.Reading.{keys_left, AreHeld}
use Rattle.folder_checks.proofs.file_check.check_keys.Given as goal

abbrev pub invariant-loop-on : goal.invariant-loop-on
invariant-loop-on l = record {
  held : AreHeld (schema_view l.schema).key l.keys;
  rows : l.keys.rows ≡ l.rows;
  columns : l.keys.columns.items ≡ map cells_read l.fn.readers.items;
}

abbrev pub decreases-loop-on : goal.decreases-loop-on
decreases-loop-on l = keys_left l.keys
