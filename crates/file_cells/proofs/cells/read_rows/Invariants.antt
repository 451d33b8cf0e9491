-- The rows so far are read.
use Rattle.std.proofs.Common.{◌≡◌, ◌≤◌, ◌+◌, ◌-◌, drop, length, map, take}
use Rattle.cell_types.specs.Column.{column_view}
use Rattle.file_cells.specs.Rows.{wrong_of}
use Rattle.file_cells.specs.Parts.{ArePartReadOn}
use Rattle.file_cells.proofs.cells.read_rows.Given as goal

abbrev pub invariant-loop-row : goal.invariant-loop-row
invariant-loop-row l =
    let columns = map column_view l.columns in
    let rows = l.file.rows in
    record {
      within : l.row ≤ length rows;
      right : wrong_of l.first columns rows ≡ wrong_of (l.first + l.row) columns (drop l.row rows);
      left : l.parts.left ≡ drop l.row rows;
      width : l.parts.width ≡ length l.file.header;
      read : ArePartReadOn columns (take l.row rows) l.fn.readers.items l.readers.items;
    }

abbrev pub decreases-loop-row : goal.decreases-loop-row
decreases-loop-row l = length l.file.rows - l.row
