use Rattle.std.proofs.Common.{◌≡◌, ◌<◌, ◌≤◌, ℕ, Some, length, map, slice_get}
use Rattle.cell_types.specs.Column.{column_view, ColumnOf}
use Rattle.column_blocks.specs.ColumnReader.{ReaderOf, with_cells}
use Rattle.column_blocks.specs.Parts.{part_cells, PartHasValues}
use Rattle.file_cells.proofs.parts.read_columns.Given as goal

-- the columns so far are read, and each of their cells has a value
abbrev pub invariant-loop-col : goal.invariant-loop-col
invariant-loop-col l =
    let columns = map column_view l.columns in
    record {
      count : length l.readers.items ≡ length l.fn.readers.items;
      values : (k : ℕ) (column : ColumnOf) → k < l.col → slice_get columns k ≡ Some column → PartHasValues column k l.part.rows;
      read : (k : ℕ) (column : ColumnOf) (was : ReaderOf) → k < l.col → slice_get columns k ≡ Some column → slice_get l.fn.readers.items k ≡ Some was
          → slice_get l.readers.items k ≡ Some (with_cells was (part_cells column k l.part.rows));
      unread : (k : ℕ) → l.col ≤ k → slice_get l.readers.items k ≡ slice_get l.fn.readers.items k;
    }
