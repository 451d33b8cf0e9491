use Rattle.std.proofs.Common.{subst, sym, Err, arith}
use Rattle.csv_windows.specs.Windows.{with_rows}
use Rattle.csv_windows.specs.declared.front.FirstLines.TheVariants as lines
use Rattle.csv_windows.proofs.CountLemmas.{rows-within}
use Rattle.csvw_meta.specs.Schema.{schema_view}
use Rattle.file_cells.proofs.CellLemmas.{more_fit, rows_room}
use Rattle.folder_checks.specs.Cells.{AddsKeptLines, MayAddKeptLines}
use Rattle.folder_checks.proofs.CellLemmas.{line_cells, wrong_stays}
use Rattle.folder_checks.proofs.cells.with_cells.Goals as goal

pub first_cells-requires-clause-rows : goal.first_cells-requires-clause-rows
first_cells-requires-clause-rows c =
    let may = subst (λ l. MayAddKeptLines (schema_view c.args.schema.now) l c.args.cells c.args.file.now) c.in-Nothing.is c.requires in
    omega (arith, rows-within may.1 c.args.file.now may.5.0, may.3)

pub more_cells-requires-clause-fits : goal.more_cells-requires-clause-fits
more_cells-requires-clause-fits c =
    let schema = schema_view c.args.schema.now in
    let file = c.args.file.now in
    let at = subst (λ l. MayAddKeptLines schema l c.args.cells file) c.in-Table.is c.requires in
    let may = subst (λ k. MayAddKeptLines schema (lines.Table c.in-Table.size) k file) c.in-Ok.is at in
    let have = may.4 in
    let joined = may.5 have.0 have.1 have.2 in
    more_fit schema.columns may.0 may.1 have.0 file have.1 have.3.header_matches joined.0 joined.1

pub more_cells-requires-clause-room : goal.more_cells-requires-clause-room
more_cells-requires-clause-room c =
    let schema = schema_view c.args.schema.now in
    let file = c.args.file.now in
    let at = subst (λ l. MayAddKeptLines schema l c.args.cells file) c.in-Table.is c.requires in
    let may = subst (λ k. MayAddKeptLines schema (lines.Table c.in-Table.size) k file) c.in-Ok.is at in
    let have = may.4 in
    let joined = may.5 have.0 have.1 have.2 in
    rows_room may.1 have.0 file c.in-Table.size joined.1 have.2 may.3

pub returns-in-Err : goal.returns-in-Err
returns-in-Err c =
    let schema = schema_view c.args.schema.now in
    let file = c.args.file.now in
    let wrong = Err c.in-Err.fault in
    subst (λ l. AddsKeptLines schema l c.args.cells file wrong) (sym c.in-Table.is)
    (subst (λ k. AddsKeptLines schema (lines.Table c.in-Table.size) k file wrong) (sym c.in-Err.is)
    (λ bytes whole new have continues.
    let joined = continues have.0 have.1 have.2 in
    line_cells schema whole new wrong (with_rows have.0 file.rows) joined.1 joined.2 (wrong_stays schema have.0 file.rows c.in-Err.fault have.3)))
