-- Crates above may cite this file. The cells of more rows, and of a file.
use Rattle.std.proofs.Common.{◌≡◌, ◌≢◌, ℕ, ◌+◌, ◌^◌, ◌≤◌, inl, inr, List, [], ◌∷◌, ◌++◌, length, length-append, map, None, Some, IfOk, IfErr, Result, Ok, Err, Vec, sym, ap, ◌∙◌, subst, arith}
use Rattle.std.specs.List.{AllByRecursion}
use Rattle.std.proofs.lemmas.List.{length-map, map-append}
use Rattle.csv_grammar.specs.Raw.{RawField, RawTable, field_of}
use Rattle.csv_index.specs.Index.{IsRawTable}
use Rattle.csv_fields.specs.Values.{rows_in, values_in, FitsColumns}
use Rattle.csv_windows.specs.Windows.{with_rows, HasLines, HasSize}
use Rattle.csv_windows.specs.declared.front.FirstLines.{FirstLines}
use Rattle.csv_windows.specs.declared.front.FirstLines.TheVariants as lines
use Rattle.csv_windows.specs.declared.front.TableSize.{TableSize}
use Rattle.csv_windows.proofs.CountLemmas.{rows-within}
use Rattle.cell_types.specs.Column.{ColumnOf}
use Rattle.cell_types.specs.Value.{CellValue}
use Rattle.column_blocks.specs.ColumnReader.{cells_read, HaveRead, ReaderOf}
use Rattle.column_blocks.specs.TypedColumn.{AreTyped}
use Rattle.file_cells.specs.declared.cells.Cells.{Cells}
use Rattle.file_cells.specs.declared.cells.Cells.TheVariants as kinds
use Rattle.file_cells.specs.declared.fault.BadCell.{BadCell}
use Rattle.file_cells.specs.declared.fault.FileFault.{FileFault}
use Rattle.file_cells.specs.declared.fault.FileFault.TheVariants.{Text, Header, Cell, NoMemory}
use Rattle.file_cells.specs.declared.file_reading.FileCells.{FileCells}
use Rattle.file_cells.specs.Cells.{most_rows, GivesCells, HasTableCells, HasReadCells, HasLineCells, IsWrong}
use Rattle.file_cells.specs.Parts.{IsFirstBadIn}
use Rattle.file_cells.specs.Reading.{HasCellsOf, IsWrongFile}
use Rattle.file_cells.specs.Rows.{mismatch_of, wrong_of}
use Rattle.file_cells.proofs.HeaderLemmas.{header_fits, same_width}
use Rattle.file_cells.proofs.PartLemmas.{bad_after, wrong_append, wrong_front}
use Rattle.file_cells.proofs.ReaderLemmas.{typed_read}

-- ---- the cells

from_zero : (n : ℕ) → 0 + n ≡ n
from_zero n = omega arith

pub cells_joined : (columns : List ColumnOf) (raw : RawTable) (rows : List (List RawField)) (readers new : List ReaderOf) → HasReadCells columns raw readers
    → wrong_of (length raw.rows) columns rows ≡ None
    → HaveRead most_rows columns (rows_in columns raw.rows ++ rows_in columns rows) new
    → HasReadCells columns (with_rows raw rows) new
cells_joined columns raw rows readers new has right read = record {
  header_matches = has.header_matches;
  right = wrong_append 0 columns raw.rows rows has.right ∙ (ap (λ n. wrong_of n columns rows) (from_zero (length raw.rows)) ∙ right);
  read = subst (λ rs. HaveRead most_rows columns rs new) (sym (map-append (values_in columns) raw.rows rows)) read;
}

pub bad_joined : (columns : List ColumnOf) (raw : RawTable) (rows : List (List RawField)) (readers : List ReaderOf) (bad : BadCell) → HasReadCells columns raw readers
    → IsFirstBadIn (length raw.rows) columns rows bad → IsFirstBadIn 0 columns (raw.rows ++ rows) bad
bad_joined columns raw rows readers bad has found =
    bad_after 0 columns raw.rows rows bad has.right (subst (λ n. IsFirstBadIn n columns rows bad) (sym (from_zero (length raw.rows))) found)

pub cells_given : {A : Type 0} (columns : List ColumnOf) (raw : RawTable) (read : Result (Vec ReaderOf A) BadCell) (all : Cells) → GivesCells read all
    → mismatch_of columns raw.header ≡ None → IfOk read (λ new. HasReadCells columns raw new.items) → IfErr read (IsFirstBadIn 0 columns raw.rows) → HasTableCells columns raw all
cells_given columns raw (Ok readers) kinds.Nothing given matches ok err = absurd given
cells_given columns raw (Ok readers) (kinds.Read new) given matches ok err = subst (HasReadCells columns raw) (sym given) ok
cells_given columns raw (Ok readers) (kinds.Wrong fault) given matches ok err = absurd given
cells_given columns raw (Err bad) kinds.Nothing given matches ok err = absurd given
cells_given columns raw (Err bad) (kinds.Read new) given matches ok err = absurd given
cells_given columns raw (Err bad) (kinds.Wrong fault) given matches ok err =
    subst (IsWrong columns raw) (sym given.0) (matches, elim err [ inl memory ↦ absurd (given.1 memory) | inr e ↦ e ], given.1)

-- ---- more lines

wrong_stays : (columns : List ColumnOf) (raw : RawTable) (rows : List (List RawField)) (fault : FileFault) → IsWrong columns raw fault → IsWrong columns (with_rows raw rows) fault
wrong_stays columns raw rows (Header col) wrong = wrong
wrong_stays columns raw rows (Cell bad) wrong = (wrong.0, wrong_front 0 columns raw.rows rows (bad.row, bad.col, bad.fault) wrong.1, wrong.2)
wrong_stays columns raw rows (Text fault) wrong = wrong
wrong_stays columns raw rows NoMemory wrong = wrong

pub table_fits : (columns : List ColumnOf) (window : List ℕ) (file : RawTable) → IsRawTable window file → length file.header ≡ length columns → FitsColumns columns file
table_fits columns window file is wide = record {
  header = wide;
  rows = same_width (length (map field_of file.header)) (length columns) file.rows (length-map file.header field_of ∙ wide) is.is.widths;
}

-- cells that are wrong stay so
pub cells_stay : (columns : List ColumnOf) (raw : RawTable) (rows : List (List RawField)) (fault : FileFault) → HasTableCells columns raw (kinds.Wrong fault)
    → HasTableCells columns (with_rows raw rows) (kinds.Wrong fault)
cells_stay columns raw rows fault wrong = wrong_stays columns raw rows fault wrong

pub have_cells : (columns : List ColumnOf) (whole : List ℕ) (new : FirstLines) (all : Cells) (raw : RawTable) → IsRawTable whole raw → HasLines new raw → HasTableCells columns raw all
    → HasLineCells columns whole new all
have_cells columns whole lines.Nothing all raw is has cells = absurd has
have_cells columns whole (lines.Table size) all raw is has cells = (raw, is, has, cells)
have_cells columns whole (lines.Faulty fault) all raw is has cells = absurd has

-- they have few rows
pub rows_room : (whole : List ℕ) (raw file : RawTable) (size : TableSize) → IsRawTable whole (with_rows raw file.rows) → HasSize raw size → length whole ≤ most_rows
    → size.rows + length file.rows ≤ most_rows
rows_room whole raw file size is sized short = omega (arith, rows-within whole (with_rows raw file.rows) is, length-append raw.rows file.rows, sized.rows, short)

-- and are as wide as the columns
pub more_fit : (columns : List ColumnOf) (bytes whole : List ℕ) (raw file : RawTable) → IsRawTable bytes raw → mismatch_of columns raw.header ≡ None
    → length file.header ≡ length raw.header → IsRawTable whole (with_rows raw file.rows) → FitsColumns columns file
more_fit columns bytes whole raw file is matches same joined =
    let wide = (header_fits columns bytes raw is matches).header in record {
      header = same ∙ wide;
      rows = later raw.rows (header_fits columns whole (with_rows raw file.rows) joined matches).rows;
    }
  where
    later : (rows : List (List RawField)) → AllByRecursion (λ fields. length fields ≡ length columns) (rows ++ file.rows) → AllByRecursion (λ fields. length fields ≡ length columns) file.rows
    later [] each = each
    later (r ∷ rows) each = later rows each.1

-- ---- the whole file

pub file_read : (columns : List ColumnOf) (file : List ℕ) (rows : ℕ) (raw : RawTable) (readers : List ReaderOf) (read : FileCells) → IsRawTable file raw → rows ≡ length raw.rows
    → HasReadCells columns raw readers → read.columns.items ≡ map cells_read readers → read.rows ≡ rows → HasCellsOf columns file read
file_read columns file rows raw readers read table count has is same = record {
  raw = raw;
  is = table;
  header_matches = has.header_matches;
  cells = record {
    cells = subst (AreTyped columns (rows_in columns raw.rows)) (sym is) (typed_read most_rows columns (rows_in columns raw.rows) readers has.read);
    right = has.right;
  };
  count = same ∙ count;
}

pub wrong_file : (columns : List ColumnOf) (file : List ℕ) (raw : RawTable) (fault : FileFault) → IsRawTable file raw → IsWrong columns raw fault → IsWrongFile columns file fault
wrong_file columns file raw (Text fault) is wrong = absurd wrong
wrong_file columns file raw (Header col) is wrong = (raw, is, wrong)
wrong_file columns file raw (Cell bad) is wrong = (raw, is, wrong)
wrong_file columns file raw NoMemory is wrong = tt
