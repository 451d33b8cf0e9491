use Rattle.std.proofs.Common.{◌≡◌, ◌++◌, None, length, map, sym, subst, arith}
use Rattle.cell_types.specs.Column.{column_view}
use Rattle.csv_fields.specs.Values.{rows_in}
use Rattle.csvw_meta.specs.Schema.{schema_view}
use Rattle.file_cells.specs.Parts.{ArePartReadOn, HavePartReaders, IsFirstBadIn}
use Rattle.file_cells.specs.Rows.{wrong_of}
use Rattle.folder_checks.proofs.CellLemmas.{right_joined, wrong_joined}
use Rattle.folder_checks.proofs.KeptLemmas.{kept_more, kept_readers}
use Rattle.folder_checks.proofs.cells.more_cells.Goals as goal

pub read_rows-requires-clause-readers : goal.read_rows-requires-clause-readers
read_rows-requires-clause-readers c =
    let kept = c.requires.kept in
    let rows = c.args.file.now.rows in
    subst (λ columns. HavePartReaders (map column_view columns) c.args.readers.items (length rows)) (sym c.as_slice.ensures.value)
    (kept_readers (schema_view c.args.schema.now) kept.0 c.args.readers.items (length rows) kept.2 (omega (arith, kept.1, c.requires.room)))

pub without_others-requires : goal.without_others-requires
without_others-requires c =
    let schema = schema_view c.args.schema.now in
    let kept = c.requires.kept in
    let rows = c.args.file.now.rows in (
      kept.0 ++ rows_in schema.columns rows,
      kept_more schema kept.0 rows c.args.readers.items c.in-Ok.read.items kept.2
          (subst (λ columns. ArePartReadOn (map column_view columns) rows c.args.readers.items c.in-Ok.read.items) c.as_slice.ensures.value c.in-Ok.ensures.read),
    )

pub returns-in_ok-without_others-in-Ok : goal.returns-in_ok-without_others-in-Ok
returns-in_ok-without_others-in-Ok c raw count has =
    let schema = schema_view c.args.schema.now in
    let rows = c.args.file.now.rows in
    let before = rows_in schema.columns raw.rows in
    let read = c.in-Ok.read.items in
    let right = subst (λ columns. wrong_of c.args.first (map column_view columns) rows ≡ None) c.as_slice.ensures.value c.in-Ok.ensures.right in
    let on = subst (λ columns. ArePartReadOn (map column_view columns) rows c.args.readers.items read) c.as_slice.ensures.value c.in-Ok.ensures.read in
    right_joined schema raw rows c.args.readers.items _ has (subst (λ n. wrong_of n schema.columns rows ≡ None) count right)
    (c.in_ok-without_others-in-Ok.ensures (before ++ rows_in schema.columns rows) (kept_more schema before rows c.args.readers.items read has.kept on))

pub returns-in-Err : goal.returns-in-Err
returns-in-Err c raw count has =
    let schema = schema_view c.args.schema.now in
    let rows = c.args.file.now.rows in
    let bad = c.in-Err.bad in
    let found = subst (λ columns. IsFirstBadIn c.args.first (map column_view columns) rows bad) c.as_slice.ensures.value c.in-Err.ensures.bad in
    wrong_joined schema raw rows c.args.readers.items bad c.fault_of.result has (subst (λ n. IsFirstBadIn n schema.columns rows bad) count found) c.fault_of.ensures.memory c.fault_of.ensures.cell
