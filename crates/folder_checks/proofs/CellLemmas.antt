-- The cells of more rows, and of more lines of a file.
use Rattle.std.proofs.Common.{◌≡◌, ◌≢◌, ℕ, ◌+◌, inl, inr, List, ◌++◌, length, None, Result, Err, Vec, refl, sym, ap, subst, ◌∙◌, arith}
use Rattle.std.proofs.lemmas.List.{map-append}
use Rattle.std.specs.Global.{Global}
use Rattle.cell_types.specs.declared.fault.CellFault.{CellFault}
use Rattle.cell_types.specs.declared.fault.CellFault.TheVariants as cell_faults
use Rattle.csv_fields.specs.Values.{rows_in, values_in}
use Rattle.csv_grammar.specs.Raw.{RawField, RawTable}
use Rattle.csv_index.specs.Index.{IsRawTable}
use Rattle.csv_windows.specs.Windows.{with_rows, HasLines}
use Rattle.csv_windows.specs.declared.front.FirstLines.{FirstLines}
use Rattle.csv_windows.specs.declared.front.FirstLines.TheVariants as lines
use Rattle.column_blocks.specs.ColumnReader.{ReaderOf}
use Rattle.csvw_meta.specs.Schema.{SchemaOf}
use Rattle.file_cells.specs.declared.fault.BadCell.{BadCell}
use Rattle.file_cells.specs.declared.fault.FileFault.{FileFault}
use Rattle.file_cells.specs.declared.fault.FileFault.TheVariants.{Text, Header, Cell, NoMemory}
use Rattle.file_cells.specs.Parts.{IsFirstBadIn}
use Rattle.file_cells.specs.Rows.{wrong_of}
use Rattle.file_cells.proofs.PartLemmas.{bad_after, wrong_append, wrong_front}
use Rattle.folder_checks.specs.Cells.{AreKept, HasChecked, HasKeptLines, HasRight}

-- nothing is wrong with more rows
pub right_joined : (schema : SchemaOf) (raw : RawTable) (rows : List (List RawField)) (readers new : List ReaderOf) → HasRight schema raw readers
    → wrong_of (length raw.rows) schema.columns rows ≡ None → AreKept schema (rows_in schema.columns raw.rows ++ rows_in schema.columns rows) new
    → HasRight schema (with_rows raw rows) new
right_joined schema raw rows readers new has right kept =
    let zero : 0 + length raw.rows ≡ length raw.rows = omega arith in record {
      header_matches = has.header_matches;
      right = wrong_append 0 schema.columns raw.rows rows has.right ∙ (ap (λ n. wrong_of n schema.columns rows) zero ∙ right);
      kept = subst (λ rs. AreKept schema rs new) (sym (map-append (values_in schema.columns) raw.rows rows)) kept;
    }

-- a cell of them has no value
pub wrong_joined : (schema : SchemaOf) (raw : RawTable) (rows : List (List RawField)) (readers : List ReaderOf) (bad : BadCell) (fault : FileFault) → HasRight schema raw readers
    → IsFirstBadIn (length raw.rows) schema.columns rows bad → (bad.fault ≡ cell_faults.NoMemory → fault ≡ NoMemory) → (bad.fault ≢ cell_faults.NoMemory → fault ≡ Cell bad)
    → HasChecked schema (with_rows raw rows) (Err fault)
wrong_joined schema raw rows readers bad fault has found memory cell =
    let zero : 0 + length raw.rows ≡ length raw.rows = omega arith in
    of_bad bad.fault refl (bad_after 0 schema.columns raw.rows rows bad has.right (subst (λ n. IsFirstBadIn n schema.columns rows bad) (sym zero) found))
  where
    of_bad : (why : CellFault) → bad.fault ≡ why → IsFirstBadIn 0 schema.columns (raw.rows ++ rows) bad → HasChecked schema (with_rows raw rows) (Err fault)
    of_bad why e (inl none) = subst (λ f. HasChecked schema (with_rows raw rows) (Err f)) (sym (memory none)) tt
    of_bad cell_faults.NoMemory e (inr is) = subst (λ f. HasChecked schema (with_rows raw rows) (Err f)) (sym (memory e)) tt
    of_bad why e (inr is) =
        let some : bad.fault ≢ cell_faults.NoMemory = λ none. cc in
        subst (λ f. HasChecked schema (with_rows raw rows) (Err f)) (sym (cell some)) (has.header_matches, is, some)

-- what is wrong stays so
pub wrong_stays : (schema : SchemaOf) (raw : RawTable) (rows : List (List RawField)) (fault : FileFault) → HasChecked schema raw (Err fault) → HasChecked schema (with_rows raw rows) (Err fault)
wrong_stays schema raw rows (Header col) wrong = wrong
wrong_stays schema raw rows (Cell bad) wrong = (wrong.0, wrong_front 0 schema.columns raw.rows rows (bad.row, bad.col, bad.fault) wrong.1, wrong.2)
wrong_stays schema raw rows (Text fault) wrong = wrong
wrong_stays schema raw rows NoMemory wrong = tt

-- the cells of more lines
pub line_cells : (schema : SchemaOf) (whole : List ℕ) (new : FirstLines) (all : Result (Vec ReaderOf Global) FileFault) (raw : RawTable) → IsRawTable whole raw → HasLines new raw
    → HasChecked schema raw all → HasKeptLines schema whole new all
line_cells schema whole lines.Nothing all raw is has cells = absurd has
line_cells schema whole (lines.Table size) all raw is has cells = (raw, is, has, cells)
line_cells schema whole (lines.Faulty fault) all raw is has cells = absurd has
