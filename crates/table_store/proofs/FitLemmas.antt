-- The values of a file that is short, in columns whose defaults are, fit the columns, and its rows are no more than its bytes.
use Rattle.std.proofs.Common.{◌≡◌, ℕ, ◌+◌, ◌^◌, ◌≤◌, ◌==◌, Bool, true, false, cond, List, [], ◌∷◌, ◌++◌, length, length-append, map, Option, None, Some, option_to_list, Ok, Err, refl, ap, sym, subst, arith}
use Rattle.std.specs.List.{All, AllByRecursion, flat_map}
use Rattle.std.proofs.lemmas.List.{length-drop, length-map}
use Rattle.std.proofs.lemmas.List.Elements.{All-cons, All-head, All-nil, All-tail}
use Rattle.csv_grammar.specs.Bytes.{comma, double_quote}
use Rattle.csv_grammar.specs.Files.{IsTable, mark_len}
use Rattle.csv_grammar.specs.Records.{Field, Line, content, doubled, print_break, print_field, print_last, print_line, print_record, print_text, quoted, unquoted}
use Rattle.csv_grammar.specs.Raw.{RawField, field_of, raw_content}
use Rattle.csv_grammar.specs.Raw.{RawTable}
use Rattle.cell_types.specs.declared.fault.CellFault.TheVariants.{Missing}
use Rattle.cell_types.specs.Cell.{is_null_text, null_reading, text_or_default, typed_value, value_of}
use Rattle.cell_types.specs.Column.{ColumnOf}
use Rattle.cell_types.specs.Datatype as datatype
use Rattle.cell_types.specs.Datatype.{DatatypeOf}
use Rattle.cell_types.specs.Laws.{IsOfColumn, IsOfDatatype, ValuesFitColumns}
use Rattle.cell_types.proofs.CaseLaws.{length-cond}
use Rattle.cell_types.specs.Value.{CellValue, boolean, date, decimal, integer, null, text}
use Rattle.csvw_meta.specs.Laws.{HasShortDefaults}
use Rattle.csvw_meta.specs.Schema.{SchemaOf}
use Rattle.table_store.specs.Fits.{HasTableRows, IsShortValue, IsTableRow}
use Rattle.table_store.specs.Loading.{table_at, IsTableAt}
use Rattle.csv_windows.proofs.CountLemmas.{rows-within}
use Rattle.csv_fields.specs.Values.{AllHaveValues, HaveValues, rows_in, value_or_null, values_in}

-- ---- no field says more than its file has

-- each field of a record has at most `n` bytes
abbrev AreWithin : ℕ → List Field → Type 0
AreWithin n fields = AllByRecursion (λ f. length (content f) ≤ n) fields

within_more : (n m : ℕ) (fields : List Field) → n ≤ m → AreWithin n fields → AreWithin m fields
within_more n m [] h k = tt
within_more n m (f ∷ fields) h k = (omega (arith, h, k.0), within_more n m fields h k.1)

all_more : (n m : ℕ) (records : List (List Field)) → n ≤ m → AllByRecursion (AreWithin n) records → AllByRecursion (AreWithin m) records
all_more n m [] h k = tt
all_more n m (fields ∷ records) h k = (within_more n m fields h k.0, all_more n m records h k.1)

all_both : (n : ℕ) (ones others : List (List Field)) → AllByRecursion (AreWithin n) ones → AllByRecursion (AreWithin n) others → AllByRecursion (AreWithin n) (ones ++ others)
all_both n [] others h k = k
all_both n (fields ∷ ones) others h k = (h.0, all_both n ones others h.1 k)

doubled_more : (b : ℕ) (bytes : List ℕ) (is : Bool) → length bytes + 1 ≤ length (cond is (double_quote ∷ double_quote ∷ bytes) (b ∷ bytes))
doubled_more b bytes true = omega arith
doubled_more b bytes false = omega arith

length-doubled : (bytes : List ℕ) → length bytes ≤ length (doubled bytes)
length-doubled [] = omega arith
length-doubled (b ∷ bytes) = omega (arith, length-doubled bytes, doubled_more b (doubled bytes) (b == double_quote))

field-within : (f : Field) → length (content f) ≤ length (print_field f)
field-within (unquoted bytes) = omega arith
field-within (quoted inside) = omega (arith, length-doubled inside, length-append (doubled inside) (double_quote ∷ []))

record-within : (fields : List Field) → AreWithin (length (print_record fields)) fields
record-within [] = tt
record-within (f ∷ []) = (field-within f, tt)
record-within (f ∷ next ∷ fields) =
    let rest = print_record (next ∷ fields) in
    let size = length-append (print_field f) (comma ∷ rest) in
    (omega (arith, field-within f, size), within_more (length rest) (length (print_record (f ∷ next ∷ fields))) (next ∷ fields) (omega (arith, size)) (record-within (next ∷ fields)))

lines-within : (lines : List Line) → AllByRecursion (AreWithin (length (flat_map print_line lines))) (map (λ (line : Line). line.fields) lines)
lines-within [] = tt
lines-within (line ∷ lines) =
    let all = length (flat_map print_line (line ∷ lines)) in
    let size = length-append (print_line line) (flat_map print_line lines) in
    let front = length-append (print_record line.fields) (print_break line.end) in (
      within_more (length (print_record line.fields)) all line.fields (omega (arith, size, front)) (record-within line.fields),
      all_more (length (flat_map print_line lines)) all (map (λ (l : Line). l.fields) lines) (omega (arith, size)) (lines-within lines),
    )

last-within : (last : Option (List Field)) → AllByRecursion (AreWithin (length (print_last last))) (option_to_list last)
last-within None = tt
last-within (Some fields) = (record-within fields, tt)

-- the rows of a table
table-within : (bytes : List ℕ) (header : List Field) (rows : List (List Field)) → IsTable bytes header rows → AllByRecursion (AreWithin (length bytes)) rows
table-within bytes header rows is =
    let tree = is.are.tree in
    let lines = flat_map print_line tree.lines in
    let size = length-append lines (print_last tree.last) in
    let whole : length (print_text tree) ≤ length bytes = omega (arith, ap length is.are.printed, length-drop (mark_len bytes) bytes) in
    let front = all_more (length lines) (length bytes) (map (λ (line : Line). line.fields) tree.lines) (omega (arith, whole, size)) (lines-within tree.lines) in
    let behind = all_more (length (print_last tree.last)) (length bytes) (option_to_list tree.last) (omega (arith, whole, size)) (last-within tree.last) in
    let all = all_both (length bytes) (map (λ (line : Line). line.fields) tree.lines) (option_to_list tree.last) front behind in
    (subst (AllByRecursion (AreWithin (length bytes))) (sym is.are.are) all).1

-- ---- no value says more than its field or the default

text_of_text : (d : DatatypeOf) (t : List ℕ) → IsOfDatatype d (text t) → d ≡ datatype.text
text_of_text datatype.text t h = refl
text_of_text datatype.integer t h = absurd h
text_of_text (datatype.boolean of_true of_false) t h = absurd h
text_of_text (datatype.date form) t h = absurd h
text_of_text datatype.decimal t h = absurd h

picked : (is_null required : Bool) (bytes t : List ℕ)
    → cond is_null (cond required (Err Missing) (Ok null)) (typed_value datatype.text bytes) ≡ Ok (text t) → bytes ≡ t
picked true true bytes t h = cc
picked true false bytes t h = cc
picked false required bytes t h = cc

text-short : (column : ColumnOf) (bytes t : List ℕ) (n : ℕ) → column.datatype ≡ datatype.text → length column.default ≤ n → length bytes ≤ n
    → value_of column bytes ≡ Ok (text t) → length t ≤ n
text-short column bytes t n is default size e =
    let content = text_or_default column bytes in
    let read : cond (is_null_text column content) (null_reading column) (typed_value datatype.text content) ≡ Ok (text t) = rw is at e in
    let same : content ≡ t = picked (is_null_text column content) column.required content t read in
    omega (arith, ap length same, length-cond n (length bytes == 0) column.default bytes default size)

value-short : (column : ColumnOf) (bytes : List ℕ) (v : CellValue) → IsOfColumn column v → length column.default ≤ 2 ^ 30 → length bytes ≤ 2 ^ 30
    → value_of column bytes ≡ Ok v → IsShortValue v
value-short column bytes (text t) is default size e = text-short column bytes t (2 ^ 30) (text_of_text column.datatype t is) default size e
value-short column bytes null is default size e = tt
value-short column bytes (integer z) is default size e = tt
value-short column bytes (boolean b) is default size e = tt
value-short column bytes (date y m d) is default size e = tt
value-short column bytes (decimal z) is default size e = tt

-- ---- rows

row-fits : ValuesFitColumns → (columns : List ColumnOf) (fields : List RawField) → length fields ≡ length columns → HaveValues columns fields
    → AllByRecursion (λ f. length (content f) ≤ 2 ^ 30) (map field_of fields) → All (λ (column : ColumnOf). length column.default ≤ 2 ^ 30) columns
    → IsTableRow columns (values_in columns fields)
row-fits law [] fields wide read short defaults = tt
row-fits law (c ∷ cs) [] wide read short defaults = absurd (omega (arith, wide))
row-fits law (c ∷ cs) (f ∷ fs) wide read short defaults =
    let P : ColumnOf → Type 0 = λ column. length column.default ≤ 2 ^ 30 in
    let value = value_or_null (value_of c (raw_content f)) in
    let is = law c (raw_content f) value read.0 in
    (is, value-short c (raw_content f) value is (All-head P c cs defaults) short.0 read.0, row-fits law cs fs (omega (arith, wide)) read.1 short.1 (All-tail P c cs defaults))

rows-fit : ValuesFitColumns → (columns : List ColumnOf) (rows : List (List RawField)) → AllByRecursion (λ fields. length fields ≡ length columns) rows → AllHaveValues columns rows
    → AllByRecursion (AreWithin (2 ^ 30)) (map (map field_of) rows) → All (λ (column : ColumnOf). length column.default ≤ 2 ^ 30) columns
    → All (IsTableRow columns) (rows_in columns rows)
rows-fit law columns [] wide read short defaults = All-nil (IsTableRow columns)
rows-fit law columns (fields ∷ rows) wide read short defaults =
    All-cons (IsTableRow columns) (values_in columns fields) (rows_in columns rows) (row-fits law columns fields wide.0 read.0 short.0 defaults)
    (rows-fit law columns rows wide.1 read.1 short.1 defaults)

pub table-fits : ValuesFitColumns → (schema : SchemaOf) (bytes : List ℕ) (file : RawTable) → length bytes ≤ 2 ^ 30 → HasShortDefaults schema
    → IsTableAt schema.columns bytes file → HasTableRows (table_at schema file)
table-fits law schema bytes file size defaults at =
    let rows = map (map field_of) file.rows in
    let within = table-within bytes (map field_of file.header) rows at.is.is in record {
      each = rows-fit law schema.columns file.rows at.fits.rows at.values (all_more (length bytes) (2 ^ 30) rows size within) defaults;
      count = omega (arith, size, rows-within bytes file at.is, length-map file.rows (values_in schema.columns));
    }
