use Rattle.row_columns.specs.Numbers.{numbers_from}
use Rattle.row_columns.proofs.BlockLemmas.{column_of_rows, first_within}
use Rattle.row_columns.proofs.block_rows.BlockRows.column.Goals as goal

pub returns : goal.returns
returns c =
    let rows = c.self.inside in
    let within = first_within rows.piece.now rows.first rows.len c.args.col c.self.invariant.0 (rw (← c.self.view_is) at c.requires) in
    rw (← c.self.view_is) (column_of_rows rows.piece.now c.args.col c.cells.result.now (numbers_from rows.first rows.len) within c.cells.ensures)
