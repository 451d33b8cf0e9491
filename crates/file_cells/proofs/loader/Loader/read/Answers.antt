use Rattle.std.proofs.Common.{◌++◌, ◌≤◌, length, length-append, map, take, arith}
use Rattle.std.proofs.lemmas.List.{length-take}
use Rattle.cell_types.specs.Column.{column_view}
use Rattle.file_cells.specs.Cells.{most_rows}
use Rattle.file_cells.proofs.LoaderLemmas.{before_window, reads_none}
use Rattle.file_cells.proofs.loader.Loader.read.Goals as goal

pub with_cells-requires : goal.with_cells-requires
with_cells-requires c =
    let columns = map column_view c.args.columns.now in
    let front = c.requires.0 in
    let window = c.args.window.now in
    let at = c.requires.1 in
    let reads = rw c.in-Ok-Rows.field-0-is at c.in-Ok-Rows.ensures.reads in
    let piece = reads front (before_window columns front window c.args.self at) in
    let whole = front ++ take piece.0.taken window in
    let short : length whole ≤ most_rows = omega (arith, at.short, piece.0.within, length-append front (take piece.0.taken window), length-take piece.0.taken window) in
    (front, whole, c.in-Ok-Rows.new.lines, short, at.read.cells, piece.1)

pub returns-in-Ok-Short-clause-goes_on : goal.returns-in-Ok-Short-clause-goes_on
returns-in-Ok-Short-clause-goes_on c = λ front at. reads_none (map column_view c.args.columns.now) front c.args.window.now c.args.self at

pub returns-in-Err-clause-fault : goal.returns-in-Err-clause-fault
returns-in-Err-clause-fault c = λ front more at.
    let columns = map column_view c.args.columns.now in
    let window = c.args.window.now in
    c.fault_of.ensures columns ((front ++ window) ++ more) (c.in-Err.ensures.fault front more (before_window columns front window c.args.self at))
