use Rattle.std.proofs.Common.{◌≡◌, take}
use Rattle.cell_types.specs.Column.{column_view}
use Rattle.column_blocks.specs.Parts.{part_cells, PartHasValues}
use Rattle.column_blocks.specs.Readers.{texts_with_cells}
use Rattle.column_blocks.proofs.text_reader.TextReader.read_part.Given as goal

-- the cells of the rows so far are read, each of which has a value
abbrev pub invariant-loop-row : goal.invariant-loop-row
invariant-loop-row l =
    let column = column_view l.column in
    let rows = take l.row l.part.rows in
    record {
      cells : l.self ≡ texts_with_cells l.fn.self (part_cells column l.col rows);
      values : PartHasValues column l.col rows;
    }
