-- Crates above may cite this file. A header against the columns, one cell after another.
use Rattle.std.proofs.Common.{◌≡◌, ℕ, suc, ◌+◌, ◌<◌, ◌≤◌, Bool, true, false, cond, string_bytes, List, [], ◌∷◌, length, drop, map, Option, Some, None, slice_get, refl, sym, ap, ◌∙◌, arith}
use Rattle.std.proofs.lemmas.List.{drop_all, length-map, length-drop}
use Rattle.std.specs.List.{list_any, AllByRecursion}
use Rattle.std.specs.Str.{bytes_eq}
use Rattle.csv_grammar.specs.Records.{Field, content}
use Rattle.csv_grammar.specs.Raw.{RawField, raw_content, field_of}
use Rattle.cell_types.specs.Column.{ColumnOf, column_view}
use Rattle.cell_types.specs.declared.column.Column.{Column}
use Rattle.cell_types.proofs.ListLaws.{list_any-map}
use Rattle.csv_grammar.specs.Files.{HasWidth}
use Rattle.csv_grammar.specs.Raw.{RawTable}
use Rattle.csv_index.specs.Index.{IsRawTable}
use Rattle.csv_fields.specs.Values.{FitsColumns}
use Rattle.file_cells.specs.Rows.{mismatch_from, mismatch_of, is_called}
use Rattle.file_cells.proofs.PlaceLemmas.{drop-from_slice_get}

-- the first place from a column on that does not match
abbrev pub other_from : ℕ → List Column → List RawField → Option ℕ
other_from col columns fields = mismatch_from col (map column_view (drop col columns)) (map field_of (drop col fields))

pub other_from-past : (columns : List Column) (fields : List RawField) (col : ℕ) (column : Column) (raw : RawField)
    → slice_get columns col ≡ Some column → slice_get fields col ≡ Some raw → is_called (column_view column) (raw_content raw) ≡ true
    → other_from col columns fields ≡ other_from (col + 1) columns fields
other_from-past columns fields col column raw e f called =
    rw (drop-from_slice_get columns col column e, drop-from_slice_get fields col raw f) (rw called refl)

pub other_from-here : (columns : List Column) (fields : List RawField) (col : ℕ) (column : Column) (raw : RawField)
    → slice_get columns col ≡ Some column → slice_get fields col ≡ Some raw → is_called (column_view column) (raw_content raw) ≡ false
    → other_from col columns fields ≡ Some col
other_from-here columns fields col column raw e f called =
    rw (drop-from_slice_get columns col column e, drop-from_slice_get fields col raw f) (rw called refl)

-- a header cell with no column
pub mismatch_from-more : (place : ℕ) (fields : List Field) → 0 < length fields → mismatch_from place [] fields ≡ Some place
mismatch_from-more place [] h = absurd (omega arith)
mismatch_from-more place (field ∷ fields) h = refl

pub other_from-long : (columns : List Column) (fields : List RawField) (col : ℕ) → length columns ≤ col → col < length fields → other_from col columns fields ≡ Some col
other_from-long columns fields col h k =
    let long : 0 < length (map field_of (drop col fields)) = omega (arith, length-map (drop col fields) field_of, length-drop col fields) in
    rw (drop_all col columns h) (mismatch_from-more col (map field_of (drop col fields)) long)

cond_none : (b : Bool) (rest : Option ℕ) (place : ℕ) → cond b rest (Some place) ≡ None → rest ≡ None
cond_none true rest place e = e
cond_none false rest place e = cc

-- a header that matches has a cell for each column
pub mismatch_from-length : (place : ℕ) (columns : List ColumnOf) (header : List Field) → mismatch_from place columns header ≡ None → length columns ≡ length header
mismatch_from-length place [] [] e = refl
mismatch_from-length place [] (field ∷ fields) e = cc
mismatch_from-length place (column ∷ columns) [] e = cc
mismatch_from-length place (column ∷ columns) (field ∷ fields) e =
    ap suc (mismatch_from-length (place + 1) columns fields (cond_none (is_called column (content field)) (mismatch_from (place + 1) columns fields) place e))

-- a text that is not the column's name may be a title
pub is_called-title : (column : Column) (text : List ℕ) (b : Bool) → bytes_eq (string_bytes column.name) text ≡ false
    → b ≡ list_any (λ title. bytes_eq (string_bytes title) text) column.titles.items → b ≡ is_called (column_view column) text
is_called-title column text b other title =
    rw (other, list_any-map (λ t. bytes_eq t text) string_bytes column.titles.items) title

-- a header that does is as wide as the columns, and so is each row
pub same_width : (n m : ℕ) (rows : List (List RawField)) → n ≡ m → AllByRecursion (HasWidth n) (map (map field_of) rows) → AllByRecursion (λ fields. length fields ≡ m) rows
same_width n m [] e wide = tt
same_width n m (fields ∷ rows) e wide = (sym (length-map fields field_of) ∙ wide.0 ∙ e, same_width n m rows e wide.1)

pub header_fits : (columns : List ColumnOf) (bytes : List ℕ) (file : RawTable) → IsRawTable bytes file → mismatch_of columns file.header ≡ None → FitsColumns columns file
header_fits columns bytes file is e =
    let wide : length columns ≡ length (map field_of file.header) = mismatch_from-length 0 columns (map field_of file.header) e in record {
      header = sym (length-map file.header field_of) ∙ sym wide;
      rows = same_width (length (map field_of file.header)) (length columns) file.rows (sym wide) is.is.widths;
    }
