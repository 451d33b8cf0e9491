use Rattle.std.proofs.Common.{◌+◌, ◌≤◌, length, map, subst, sym, arith}
use Rattle.cell_types.specs.Column.{column_view}
use Rattle.csv_windows.specs.Windows.{with_rows}
use Rattle.csv_windows.proofs.CountLemmas.{rows-within}
use Rattle.file_cells.specs.Cells.{AddsLines, MayAddLines}
use Rattle.file_cells.specs.declared.cells.Cells.TheVariants as kinds
use Rattle.csv_windows.specs.declared.front.FirstLines.TheVariants as lines
use Rattle.file_cells.proofs.CellLemmas.{cells_stay, have_cells, more_fit, rows_room}
use Rattle.file_cells.proofs.cells.with_cells.Goals as goal

pub first_cells-requires-clause-rows : goal.first_cells-requires-clause-rows
first_cells-requires-clause-rows c =
    let may = subst (λ l. MayAddLines (map column_view c.args.columns.now) l c.args.cells c.args.file.now) c.in-Nothing.is c.requires in
    omega (arith, rows-within may.1 c.args.file.now may.5.0, may.3)

pub more_cells-requires-clause-fits : goal.more_cells-requires-clause-fits
more_cells-requires-clause-fits c =
    let columns = map column_view c.args.columns.now in
    let file = c.args.file.now in
    let at = subst (λ l. MayAddLines columns l c.args.cells file) c.in-Table.is c.requires in
    let may = subst (λ k. MayAddLines columns (lines.Table c.in-Table.size) k file) c.in-Read.is at in
    let have = may.4 in
    let joined = may.5 have.0 have.1 have.2 in
    more_fit columns may.0 may.1 have.0 file have.1 have.3.header_matches joined.0 joined.1

pub more_cells-requires-clause-room : goal.more_cells-requires-clause-room
more_cells-requires-clause-room c =
    let columns = map column_view c.args.columns.now in
    let file = c.args.file.now in
    let at = subst (λ l. MayAddLines columns l c.args.cells file) c.in-Table.is c.requires in
    let may = subst (λ k. MayAddLines columns (lines.Table c.in-Table.size) k file) c.in-Read.is at in
    let have = may.4 in
    let joined = may.5 have.0 have.1 have.2 in
    rows_room may.1 have.0 file c.in-Table.size joined.1 have.2 may.3

pub returns-in-Wrong-clause-cells : goal.returns-in-Wrong-clause-cells
returns-in-Wrong-clause-cells c =
    let columns = map column_view c.args.columns.now in
    let file = c.args.file.now in
    let wrong = kinds.Wrong c.in-Wrong.fault in
    subst (λ l. AddsLines columns l c.args.cells file wrong) (sym c.in-Table.is)
    (subst (λ k. AddsLines columns (lines.Table c.in-Table.size) k file wrong) (sym c.in-Wrong.is)
    (λ bytes whole new have continues.
    let joined = continues have.0 have.1 have.2 in
    have_cells columns whole new wrong (with_rows have.0 file.rows) joined.1 joined.2 (cells_stay columns have.0 file.rows c.in-Wrong.fault have.3)))
