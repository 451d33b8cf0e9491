use Rattle.std.proofs.Common.{◌≡◌, None, length, map, subst, arith}
use Rattle.cell_types.specs.Column.{column_view}
use Rattle.csv_fields.specs.Values.{rows_in}
use Rattle.csv_windows.specs.Windows.{with_rows}
use Rattle.file_cells.specs.Cells.{most_rows}
use Rattle.file_cells.specs.Parts.{IsFirstBadIn}
use Rattle.file_cells.specs.Rows.{wrong_of}
use Rattle.std.proofs.lemmas.Result.{IfErr-weaker, IfOk-weaker}
use Rattle.cell_types.proofs.CaseLaws.{IfOk-both}
use Rattle.file_cells.proofs.CellLemmas.{bad_joined, cells_given, cells_joined}
use Rattle.file_cells.proofs.InsideLemmas.{length-rows_in}
use Rattle.file_cells.proofs.PartLemmas.{part_read_on, part_readers}
use Rattle.file_cells.proofs.cells.more_cells.Goals as goal

pub read_rows-requires-clause-readers : goal.read_rows-requires-clause-readers
read_rows-requires-clause-readers c =
    let columns = map column_view c.args.columns.now in
    let raw = c.requires.read.0 in
    part_readers most_rows columns (rows_in columns raw.rows) c.args.readers.items (length c.args.file.now.rows) c.requires.read.2.read
    (omega (arith, length-rows_in columns raw.rows, c.requires.read.1, c.requires.room))

pub returns-clause-cells : goal.returns-clause-cells
returns-clause-cells c =
    let columns = map column_view c.args.columns.now in
    let rows = c.args.file.now.rows in
    IfOk-weaker c.cells_of.result _ _
    (λ all given raw count has.
    cells_given columns (with_rows raw rows) c.read_rows.result all given has.header_matches
    (IfOk-both c.read_rows.result _ _ _
    (λ new right read. cells_joined columns raw rows c.args.readers.items new.items has (subst (λ n. wrong_of n columns rows ≡ None) count right)
    (part_read_on most_rows columns (rows_in columns raw.rows) c.args.readers.items new.items rows has.read read))
    c.read_rows.ensures.right c.read_rows.ensures.read)
    (IfErr-weaker c.read_rows.result _ _ (λ bad found. bad_joined columns raw rows c.args.readers.items bad has (subst (λ n. IsFirstBadIn n columns rows bad) count found)) c.read_rows.ensures.bad))
    c.cells_of.ensures.cells
