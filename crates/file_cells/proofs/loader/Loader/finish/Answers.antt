use Rattle.std.proofs.Common.{◌++◌, ◌≤◌, length, length-append, map, arith}
use Rattle.std.proofs.lemmas.Result.{IfErr-weaker, IfOk-weaker}
use Rattle.cell_types.specs.Column.{column_view}
use Rattle.csv_windows.specs.declared.front.FirstLines.TheVariants as lines
use Rattle.file_cells.specs.Cells.{most_rows}
use Rattle.file_cells.proofs.LoaderLemmas.{before_window, file_cells}
use Rattle.file_cells.proofs.loader.Loader.finish.Goals as goal

pub with_cells-requires : goal.with_cells-requires
with_cells-requires c =
    let columns = map column_view c.args.columns.now in
    let front = c.requires.0 in
    let rest = c.args.rest.now in
    let at = c.requires.1 in
    let short : length (front ++ rest) ≤ most_rows = omega (arith, at.short, length-append front rest) in
    (front, front ++ rest, lines.Table c.in-Ok.size, short, at.read.cells, c.in-Ok.ensures.table front (before_window columns front rest c.args.self at))

pub columns_of-requires : goal.columns_of-requires
columns_of-requires c =
    let columns = map column_view c.args.columns.now in
    let front = c.requires.0 in
    let rest = c.args.rest.now in
    let at = c.requires.1 in
    let cells = c.in_ok-cells-in-Ok.cells in (
      columns,
      front ++ rest,
      file_cells columns (front ++ rest) c.in-Ok.size cells
          (c.in_ok-cells-in-Ok.ensures.cells front (front ++ rest) (lines.Table c.in-Ok.size) at.read.cells (c.in-Ok.ensures.table front (before_window columns front rest c.args.self at))),
    )

pub returns-in_ok-cells-in-Ok-clause-reads : goal.returns-in_ok-cells-in-Ok-clause-reads
returns-in_ok-cells-in-Ok-clause-reads c =
    let columns = map column_view c.args.columns.now in
    let rest = c.args.rest.now in
    let cells = c.in_ok-cells-in-Ok.cells in
    IfOk-weaker c.columns_of.result _ _ (λ read gives front at.
    gives columns (front ++ rest) (file_cells columns (front ++ rest) c.in-Ok.size cells
    (c.in_ok-cells-in-Ok.ensures.cells front (front ++ rest) (lines.Table c.in-Ok.size) at.read.cells (c.in-Ok.ensures.table front (before_window columns front rest c.args.self at)))))
    c.columns_of.ensures.reads

pub returns-in_ok-cells-in-Ok-clause-fault : goal.returns-in_ok-cells-in-Ok-clause-fault
returns-in_ok-cells-in-Ok-clause-fault c =
    let columns = map column_view c.args.columns.now in
    let rest = c.args.rest.now in
    let cells = c.in_ok-cells-in-Ok.cells in
    IfErr-weaker c.columns_of.result _ _ (λ fault is front at.
    is columns (front ++ rest) (file_cells columns (front ++ rest) c.in-Ok.size cells
    (c.in_ok-cells-in-Ok.ensures.cells front (front ++ rest) (lines.Table c.in-Ok.size) at.read.cells (c.in-Ok.ensures.table front (before_window columns front rest c.args.self at)))))
    c.columns_of.ensures.fault

pub returns-in-Err-clause-fault : goal.returns-in-Err-clause-fault
returns-in-Err-clause-fault c = λ front at.
    let columns = map column_view c.args.columns.now in
    let rest = c.args.rest.now in
    c.fault_of.ensures columns (front ++ rest) (c.in-Err.ensures.fault front (before_window columns front rest c.args.self at))
