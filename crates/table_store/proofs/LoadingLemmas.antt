-- Crates above may cite this file. What the steps of reading a file show of it, by its fields as they stand.
use Rattle.std.proofs.Common.{◌≡◌, ◌≢◌, ℕ, List, map, Option, Some, None, IfSome, option_map, Result, Ok, Err, refl, ap, sym, subst, ◌∙◌, ◌⊎◌, inl, inr}
use Rattle.std.specs.Result.{result_err}
use Rattle.csv_grammar.specs.Raw.{RawField, field_of}
use Rattle.csv_grammar.specs.Raw.{RawTable}
use Rattle.csv_index.specs.Index.{IsRawTable}
use Rattle.cell_types.specs.declared.fault.CellFault.{CellFault}
use Rattle.cell_types.specs.declared.fault.CellFault.TheVariants.{NoMemory}
use Rattle.cell_types.specs.Column.{ColumnOf}
use Rattle.csvw_meta.specs.Schema.{SchemaOf}
use Rattle.key_index.specs.declared.keys.KeyFault.{KeyFault}
use Rattle.key_index.specs.declared.keys.KeyFault.TheVariants.{Null, Twice}
use Rattle.table_store.specs.Table.{rows_from, HasCells, HasOtherHeader, HasBadCell}
use Rattle.table_store.specs.Fault.{TableCause, file_missing, file_too_large, bad_text, bad_header, bad_cell, key_null, key_twice, cell_cause}
use Rattle.csv_fields.specs.Values.{rows_in}
use Rattle.key_index.specs.Keys.{HasKeyFault}
use Rattle.file_cells.specs.declared.fault.FileFault.{FileFault}
use Rattle.file_cells.specs.declared.fault.FileFault.TheVariants as wrong
use Rattle.csv_index.specs.Fault.{text_cause}
use Rattle.file_cells.specs.Reading.{IsWrongFile}
use Rattle.file_cells.specs.Rows.{mismatch_of}
use Rattle.table_store.specs.Loading.{file_cause, key_cause, keys_at, bad_cell_of, table_at, ArePartsOf, IsTableAt, IsTableOf, HasRowsCause, HasFileCause}
use Rattle.key_index.specs.declared.reading.KeyedRows.{KeyedRows}
use Rattle.table_store.specs.Catalog.{HasTable}
use Rattle.table_store.specs.Inside.{table_of}
use Rattle.table_store.proofs.ColumnLemmas.{typed-rows}
use Rattle.file_cells.proofs.InsideLemmas.{length-rows_in, rows-wide}
use Rattle.file_cells.proofs.RowLemmas.{rows_from-none}
use Rattle.file_cells.proofs.HeaderLemmas.{header_fits}

at_err : {T E : Type 0} (r : Result T E) (e : E) → result_err r ≡ Some e → r ≡ Err e
at_err (Ok x) e h = cc
at_err (Err d) e h = let same : d ≡ e = cc in ap (λ x. Err x) same

-- a header that does not match
pub other_header : (schema : SchemaOf) (bytes : List ℕ) (file : RawTable) (col : ℕ) → IsRawTable bytes file → mismatch_of schema.columns file.header ≡ Some col
    → HasOtherHeader schema bytes col
other_header schema bytes file col is e = record { header = map field_of file.header; records = map (map field_of) file.rows; is = is.is; first = e }

-- a cell that has no value
pub bad_cell_at : (schema : SchemaOf) (bytes : List ℕ) (file : RawTable) (row col : ℕ) (fault : CellFault) → IsRawTable bytes file
    → mismatch_of schema.columns file.header ≡ None → bad_cell_of schema file.rows ≡ Some (row, col, fault) → HasBadCell schema bytes row col fault
bad_cell_at schema bytes file row col fault is e f = record {
  header = map field_of file.header;
  records = map (map field_of) file.rows;
  is = is.is;
  header_matches = e;
  first = at_err (rows_from 0 schema.columns (map (map field_of) file.rows)) (row, col, fault) f;
}

-- nothing is wrong
pub is_table_at : (columns : List ColumnOf) (bytes : List ℕ) (file : RawTable) → IsRawTable bytes file → mismatch_of columns file.header ≡ None
    → result_err (rows_from 0 columns (map (map field_of) file.rows)) ≡ None → IsTableAt columns bytes file
is_table_at columns bytes file is e f =
    let both = rows_from-none 0 columns file.rows f in
    record { is = is; header_matches = e; rows = both.1; fits = header_fits columns bytes file is e; values = both.0 }

-- the fault of a cell is a cause unless memory ran out
pub cell_cause-holds : (fault : CellFault) (P : CellFault → Type 0) → (fault ≡ NoMemory) ⊎ P fault → IfSome (cell_cause fault) P
cell_cause-holds NoMemory P h = tt
cell_cause-holds fault P (inl memory) = cc
cell_cause-holds fault P (inr h) = h

pub IfSome-map : {A B : Type 0} (o : Option A) (f : A → B) (P : A → Type 0) (Q : B → Type 0) → IfSome o P → ((x : A) → P x → Q (f x)) → IfSome (option_map f o) Q
IfSome-map None f P Q h g = tt
IfSome-map (Some x) f P Q h g = g x h

-- a cell that has no value is the first thing wrong with the rows
pub bad_cell-cause : (schema : SchemaOf) (rows : List (List RawField)) (row col : ℕ) (fault : CellFault)
    → (fault ≡ NoMemory) ⊎ (bad_cell_of schema rows ≡ Some (row, col, fault)) → IfSome (option_map (bad_cell row col) (cell_cause fault)) (HasRowsCause schema rows)
bad_cell-cause schema rows row col fault h =
    let Here : CellFault → Type 0 = λ f. bad_cell_of schema rows ≡ Some (row, col, f) in
    IfSome-map (cell_cause fault) (bad_cell row col) Here (HasRowsCause schema rows) (cell_cause-holds fault Here h) (λ f here. here)

-- and else what is wrong with the keys
pub key_fault-cause : (schema : SchemaOf) (rows : List (List RawField)) (fault : KeyFault) → bad_cell_of schema rows ≡ None
    → HasKeyFault (keys_at schema rows) fault → HasRowsCause schema rows (key_cause fault)
key_fault-cause schema rows (Null row) none has = (none, has)
key_fault-cause schema rows (Twice row) none has = (none, has.0, has.1)

-- what is first wrong with the file before its keys
pub file_wrong : (schema : SchemaOf) (bytes : List ℕ) (fault : FileFault) → IsWrongFile schema.columns bytes fault → IfSome (file_cause fault) (HasFileCause schema bytes)
file_wrong schema bytes (wrong.Text fault) is = subst (λ cause. IfSome (option_map bad_text cause) (HasFileCause schema bytes)) (sym is.1) is.2
file_wrong schema bytes (wrong.Header col) is = other_header schema bytes is.0 col is.1 is.2
file_wrong schema bytes (wrong.Cell bad) is =
    IfSome-map (cell_cause bad.fault) (bad_cell bad.row bad.col) (λ f. bad_cell_of schema is.0.rows ≡ Some (bad.row, bad.col, f)) (HasFileCause schema bytes)
    (cell_cause-holds bad.fault (λ f. bad_cell_of schema is.0.rows ≡ Some (bad.row, bad.col, f)) (inr is.2.1))
    (λ f here. bad_cell_at schema bytes is.0 bad.row bad.col f is.1 is.2.0 here)
file_wrong schema bytes wrong.NoMemory is = tt

some_cause : (fault : CellFault) (row col : ℕ) → fault ≢ NoMemory → option_map (bad_cell row col) (cell_cause fault) ≡ None → ⊥
some_cause NoMemory row col not is = not refl
some_cause fault row col not is = cc

-- it has a cause unless memory ran out
pub file_known : (columns : List ColumnOf) (bytes : List ℕ) (fault : FileFault) → IsWrongFile columns bytes fault → file_cause fault ≡ None → fault ≡ wrong.NoMemory
file_known columns bytes (wrong.Text fault) is none = let e : option_map bad_text (text_cause fault) ≡ Some (bad_text is.0) = ap (option_map bad_text) is.1 in absurd (cc)
file_known columns bytes (wrong.Header col) is none = absurd (cc)
file_known columns bytes (wrong.Cell bad) is none = absurd (some_cause bad.fault bad.row bad.col is.2.2 none)
file_known columns bytes wrong.NoMemory is none = refl

-- where each cell has a value, these are the cells
pub table_cells : (schema : SchemaOf) (bytes : List ℕ) (file : RawTable) → IsTableAt schema.columns bytes file
    → HasCells schema bytes (table_at schema file)
table_cells schema bytes file at = record {
  header = map field_of file.header;
  records = map (map field_of) file.rows;
  is = at.is.is;
  header_matches = at.header_matches;
  of_schema = refl;
  values = at.rows;
}

-- what is wrong with the rows is what is wrong with the file
pub rows_cause : (schema : SchemaOf) (bytes : List ℕ) (file : RawTable) (cause : TableCause) → IsRawTable bytes file
    → mismatch_of schema.columns file.header ≡ None → HasRowsCause schema file.rows cause → HasFileCause schema bytes cause
rows_cause schema bytes file file_missing is e has = absurd has
rows_cause schema bytes file file_too_large is e has = absurd has
rows_cause schema bytes file (bad_text fault) is e has = absurd has
rows_cause schema bytes file (bad_header place) is e has = absurd has
rows_cause schema bytes file (bad_cell row col fault) is e has = bad_cell_at schema bytes file row col fault is e has
rows_cause schema bytes file (key_null row) is e has = record {
  table = table_at schema file;
  cells = table_cells schema bytes file (is_table_at schema.columns bytes file is e has.0);
  first = has.1;
}
rows_cause schema bytes file (key_twice row) is e has = record {
  table = table_at schema file;
  cells = table_cells schema bytes file (is_table_at schema.columns bytes file is e has.0);
  whole = has.1;
  first = has.2;
}

-- ---- the parts that were read, and their table
pub parts_table : (schema : SchemaOf) (bytes : List ℕ) (file : RawTable) (parts : KeyedRows) → IsTableAt schema.columns bytes file → ArePartsOf schema file.rows parts
    → table_of schema parts.rows parts.columns.items ≡ table_at schema file
parts_table schema bytes file parts at of =
    let rows = rows_in schema.columns file.rows in
    ap (λ rs. record { schema = schema; rows = rs })
    (typed-rows schema.columns rows parts.columns.items parts.rows (of.count ∙ sym (length-rows_in schema.columns file.rows)) (rows-wide schema.columns file.rows at.fits.rows) of.columns)

pub has_table : (limit : ℕ) (bytes : Option (List ℕ)) (schema : SchemaOf) (file : RawTable) (parts : KeyedRows) → IsTableOf limit bytes schema file → ArePartsOf schema file.rows parts
    → HasTable limit bytes schema (table_of schema parts.rows parts.columns.items)
has_table limit bytes schema file parts at of =
    subst (HasTable limit bytes schema) (sym (parts_table schema at.0 file parts at.2 of)) (record {
      bytes = at.0;
      has_file = at.1;
      is = record { cells = table_cells schema at.0 file at.2; whole = of.keys.whole; distinct = of.keys.distinct };
    })
