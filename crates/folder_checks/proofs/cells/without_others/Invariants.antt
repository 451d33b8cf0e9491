-- What is not in the key may be read anew.
use Rattle.std.proofs.Common.{◌≡◌, ◌<◌, ◌≤◌, ℕ, List, [], Some, length, slice_get}
use Rattle.cell_types.specs.Column.{ColumnOf}
use Rattle.cell_types.specs.Value.{CellValue}
use Rattle.column_blocks.specs.ColumnReader.{reader_at}
use Rattle.csvw_meta.specs.Schema.{schema_view}
use Rattle.file_cells.specs.Cells.{most_rows}
use Rattle.folder_checks.specs.Cells.{AreKept}
use Rattle.folder_checks.proofs.cells.without_others.Given as goal

abbrev pub invariant-loop-reader : goal.invariant-loop-reader
invariant-loop-reader l =
    let schema = schema_view l.schema in
    record {
      within : length l.fresh.items ≤ length schema.columns;
      fresh : (k : ℕ) (column : ColumnOf) → k < length l.fresh.items → slice_get schema.columns k ≡ Some column
          → slice_get l.fresh.items k ≡ Some (reader_at most_rows column []);
      kept : (rows : List (List CellValue)) → AreKept schema rows l.fn.readers.items → AreKept schema rows l.kept.items;
    }

abbrev pub decreases-loop-reader : goal.decreases-loop-reader
decreases-loop-reader l = length l.fresh.items
