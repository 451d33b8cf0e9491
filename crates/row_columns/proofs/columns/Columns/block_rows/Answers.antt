use Rattle.std.proofs.Common.{◌≡◌, ◌+◌, ◌≤◌, List, drop, length, take, subst, ap, ◌∙◌, arith}
use Rattle.std.specs.Prelude.{IfSome}
use Rattle.std.proofs.lemmas.List.{length-map}
use Rattle.cell_types.specs.Value.{CellValue}
use Rattle.row_columns.specs.Columns.{ColumnsOf}
use Rattle.row_columns.specs.Store.{stored_row}
use Rattle.row_columns.proofs.BlockLemmas.{some_of_run}
use Rattle.row_columns.proofs.columns.Columns.block_rows.Goals as goal

pub returns : goal.returns
returns c =
    let numbers = c.self.inside.numbers in
    let store = c.self.inside.store in
    let row = c.args.row in
    let count = c.args.count in
    let long : row + count ≤ length numbers = omega (arith, c.requires, ap (λ (s : ColumnsOf). length s.rows) c.self.view_is, length-map numbers (stored_row store)) in
    let are = some_of_run (stored_row store) numbers _ _ row count c.at.result c.in_ok-run.ensures long (omega (arith, c.if-count-eq0.false)) c.at.ensures in
    subst (λ (rs : List (List CellValue)). IfSome c.block_rows.result (λ rows. rows ≡ rs)) (are ∙ ap (λ (s : ColumnsOf). take count (drop row s.rows)) c.self.view_is) c.block_rows.ensures
