use Rattle.std.proofs.Common.{◌≡◌, [], None, length, map, sym, arith}
use Rattle.cell_types.specs.Column.{column_view}
use Rattle.file_cells.specs.Cells.{most_rows}
use Rattle.std.proofs.lemmas.Result.{IfErr-weaker, IfOk-weaker}
use Rattle.cell_types.proofs.CaseLaws.{IfOk-both}
use Rattle.file_cells.proofs.CellLemmas.{cells_given}
use Rattle.file_cells.proofs.HeaderLemmas.{header_fits}
use Rattle.file_cells.proofs.PartLemmas.{part_read_on, part_readers}
use Rattle.file_cells.proofs.ReaderLemmas.{read_start}
use Rattle.file_cells.proofs.cells.first_cells.Goals as goal

pub read_rows-requires-clause-fits : goal.read_rows-requires-clause-fits
read_rows-requires-clause-fits c =
    header_fits (map column_view c.args.columns.now) c.requires.table.0 c.args.file.now c.requires.table.1 (sym (rw c.in-None.is at c.in_ok-col.ensures))

pub read_rows-requires-clause-readers : goal.read_rows-requires-clause-readers
read_rows-requires-clause-readers c =
    let columns = map column_view c.args.columns.now in
    let begun = read_start most_rows columns c.in_ok-readers-in-None.readers.items c.in_ok-readers-in-None.ensures in
    part_readers most_rows columns [] c.in_ok-readers-in-None.readers.items (length c.args.file.now.rows) begun (omega (arith, c.requires.rows))

pub returns-in_ok-readers-in-None-clause-cells : goal.returns-in_ok-readers-in-None-clause-cells
returns-in_ok-readers-in-None-clause-cells c =
    let columns = map column_view c.args.columns.now in
    let matches = sym (rw c.in-None.is at c.in_ok-col.ensures) in
    let begun = read_start most_rows columns c.in_ok-readers-in-None.readers.items c.in_ok-readers-in-None.ensures in
    IfOk-weaker c.cells_of.result _ _
    (λ all given.
    cells_given columns c.args.file.now c.read_rows.result all given matches
    (IfOk-both c.read_rows.result _ _ _
    (λ new right read. record { header_matches = matches; right = right; read = part_read_on most_rows columns [] c.in_ok-readers-in-None.readers.items new.items c.args.file.now.rows begun read })
    c.read_rows.ensures.right c.read_rows.ensures.read)
    c.read_rows.ensures.bad)
    c.cells_of.ensures.cells
