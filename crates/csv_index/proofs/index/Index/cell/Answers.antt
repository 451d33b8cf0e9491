-- The field's number is among the places, and is that of the row and the column.
use Rattle.std.proofs.Common.{◌+◌, ◌*◌, ◌≤◌, length, arith}
use Rattle.csv_index.proofs.CellLemmas.{cell_fits}
use Rattle.csv_index.proofs.RowLemmas.{cell-table_in}
use Rattle.csv_index.proofs.index.Index.cell.Goals as goal

pub overflow_add-row : goal.overflow_add-row
overflow_add-row c = let f = cell_fits c.args.self.now c.args.bytes.now c.args.row c.requires.bytes (omega arith) in omega (arith, f.0, f.1, f.2)

pub overflow_mul-row : goal.overflow_mul-row
overflow_mul-row c =
    let f = cell_fits c.args.self.now c.args.bytes.now c.args.row c.requires.bytes (omega arith) in
    let most : (c.args.row + 1) * c.args.self.now.width ≤ length c.args.bytes.now + 1 = omega (arith, f.1, f.2) in
    let here : (c.args.row + 1) * c.self.inside.width ≤ length c.args.bytes.now + 1 = rw (← c.self.view_is) at most in
    omega arith

pub overflow_add-row-2 : goal.overflow_add-row-2
overflow_add-row-2 c =
    let more : c.args.row + 1 ≤ c.args.self.now.rows = omega arith in
    let f = cell_fits c.args.self.now c.args.bytes.now (c.args.row + 1) c.requires.bytes more in
    let most : (c.args.row + 1) * c.args.self.now.width + c.args.col ≤ length c.args.bytes.now + 1 = omega (arith, f.1, f.2, c.requires.col) in
    let here : (c.args.row + 1) * c.self.inside.width + c.args.col ≤ length c.args.bytes.now + 1 = rw (← c.self.view_is) at most in
    omega arith

pub returns : goal.returns
returns c =
    cell-table_in c.args.self.now c.args.bytes.now c.args.row c.args.col _ c.requires.row c.requires.col (rw (← c.self.view_is) (rw (← c.self.view_is) at c.field.ensures))
