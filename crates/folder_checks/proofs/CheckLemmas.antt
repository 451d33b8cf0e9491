-- What is known of a file, of its keys and of what is wrong with it.
use Rattle.std.proofs.Common.{◌≡◌, ◌≤◌, ℕ, inl, inr, List, length, length-append, map, Some, Result, Err, Vec, refl, sym, ap, subst, ◌∙◌, arith}
use Rattle.std.specs.Global.{Global}
use Rattle.csv_grammar.specs.Raw.{RawTable}
use Rattle.csv_index.specs.Index.{IsRawTable}
use Rattle.csv_fields.specs.Values.{rows_in}
use Rattle.csv_windows.specs.Windows.{AreFaulty}
use Rattle.csv_windows.specs.declared.front.FirstLines.{FirstLines}
use Rattle.csv_windows.specs.declared.front.FirstLines.TheVariants as lines
use Rattle.column_blocks.specs.ColumnReader.{cells_read, ReaderOf}
use Rattle.column_blocks.specs.TypedColumn.{ColumnCells}
use Rattle.csvw_meta.specs.Schema.{SchemaOf}
use Rattle.csvw_meta.specs.declared.limits.TheConstants.{MOST_FILE_BYTES}
use Rattle.file_cells.specs.declared.fault.FileFault.{FileFault}
use Rattle.file_cells.specs.declared.fault.FileFault.TheVariants.{Text, Header, Cell, NoMemory}
use Rattle.file_cells.specs.Cells.{most_rows}
use Rattle.file_cells.specs.Reading.{IsWrongFile}
use Rattle.file_cells.proofs.InsideLemmas.{length-rows_in}
use Rattle.key_index.specs.Keys.{typed_keys}
use Rattle.table_store.specs.Catalog.{HasTableCause}
use Rattle.table_store.specs.Fault.{TableCause, file_missing, file_too_large, bad_text, bad_header, bad_cell, key_null, key_twice}
use Rattle.table_store.specs.Loading.{keys_at, table_at, HasFileCause, HasKeyColumns}
use Rattle.table_store.proofs.LoadingLemmas.{is_table_at, table_cells}
use Rattle.folder_checks.specs.Cells.{HasChecked, HasKeptLines, HasRight}
use Rattle.folder_checks.specs.Checks.{AreWhole, IsChecking, IsSomeTable}
use Rattle.folder_checks.specs.Windows.{HasWindows, ReadsWindowOn}
use Rattle.folder_checks.specs.declared.file_check.FileCheck.{FileCheck}
use Rattle.folder_checks.specs.declared.windows.Fed.TheVariants as feds
use Rattle.folder_checks.specs.declared.windows.Windows.{Windows}
use Rattle.folder_checks.proofs.KeyLemmas.{keys_kept}

pub fed_short : (given front : List ℕ) (windows : Windows) → HasWindows given front windows → length front ≤ most_rows
fed_short given front windows fed = omega (arith, fed.short, ap length fed.is, length-append front windows.window.items)

-- lines with which a file is no table
faulty_cells : (schema : SchemaOf) (bytes : List ℕ) (first : FirstLines) (cells : Result (Vec ReaderOf Global) FileFault) → AreFaulty first → HasKeptLines schema bytes first cells
faulty_cells schema bytes lines.Nothing cells faulty = absurd faulty
faulty_cells schema bytes (lines.Table size) cells faulty = absurd faulty
faulty_cells schema bytes (lines.Faulty fault) cells faulty = tt

-- no row more is read
pub checked_on : (schema : SchemaOf) (given all : List ℕ) (old : FileCheck) (windows : Windows) → (checks : IsChecking schema given old)
    → ReadsWindowOn all checks.front old.windows (feds.On windows) → IsChecking schema all (record { windows = windows; cells = old.cells })
checked_on schema given all old windows checks (inl same) =
    record { front = checks.front; fed = same.0; cells = subst (λ l. HasKeptLines schema checks.front l old.cells) (sym same.1) checks.cells }
checked_on schema given all old windows checks (inr faulty) =
    record { front = faulty.0; fed = faulty.1; cells = faulty_cells schema faulty.0 windows.front.lines old.cells faulty.2 }

-- the keys of the columns are those of the rows
pub keys_of_kept : (schema : SchemaOf) (raw : RawTable) (readers : List ReaderOf) (places : List ℕ) (columns : List ColumnCells) (n rows : ℕ) → HasKeyColumns schema
    → HasRight schema raw readers → rows ≡ length raw.rows → places ≡ schema.key → columns ≡ map cells_read readers → n ≡ rows
    → typed_keys places columns n ≡ keys_at schema raw.rows
keys_of_kept schema raw readers places columns n rows key has count at is same =
    ap (λ ps. typed_keys ps columns n) at ∙ ap (λ cs. typed_keys schema.key cs n) is
    ∙ keys_kept schema (rows_in schema.columns raw.rows) readers n key has.kept (same ∙ count ∙ sym (length-rows_in schema.columns raw.rows))

-- nothing is wrong: some table is meant
pub some_table : (schema : SchemaOf) (given : List ℕ) (raw : RawTable) (readers : List ReaderOf) → IsRawTable given raw → HasRight schema raw readers → AreWhole schema raw.rows
    → IsSomeTable schema given
some_table schema given raw readers is has whole = (
  table_at schema raw,
  record {
    cells = table_cells schema given raw (is_table_at schema.columns given raw is has.header_matches has.right);
    whole = whole.0;
    distinct = whole.1;
  },
)

-- the header or a cell is wrong
pub wrong_checked : (schema : SchemaOf) (given : List ℕ) (raw : RawTable) (fault : FileFault) → IsRawTable given raw → HasChecked schema raw (Err fault) → IsWrongFile schema.columns given fault
wrong_checked schema given raw (Text fault) is wrong = absurd wrong
wrong_checked schema given raw (Header col) is wrong = (raw, is, wrong)
wrong_checked schema given raw (Cell bad) is wrong = (raw, is, wrong)
wrong_checked schema given raw NoMemory is wrong = tt

-- what is wrong with the file of a table
pub has_cause : (schema : SchemaOf) (given : List ℕ) (cause : TableCause) → length given ≤ MOST_FILE_BYTES → HasFileCause schema given cause
    → HasTableCause MOST_FILE_BYTES (Some given) schema cause
has_cause schema given file_missing short wrong = absurd wrong
has_cause schema given file_too_large short wrong = absurd wrong
has_cause schema given (bad_text fault) short wrong = (given, (refl, short), wrong)
has_cause schema given (bad_header place) short wrong = (given, (refl, short), wrong)
has_cause schema given (bad_cell row col fault) short wrong = (given, (refl, short), wrong)
has_cause schema given (key_null row) short wrong = (given, (refl, short), wrong)
has_cause schema given (key_twice row) short wrong = (given, (refl, short), wrong)
