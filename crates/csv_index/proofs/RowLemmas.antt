-- Fields cut into rows, and what an index finds of them.
use Rattle.std.proofs.Common.{subst, ◌≡◌, ℕ, zero, suc, ◌+◌, ◌*◌, ◌<◌, ◌≤◌, List, [], ◌∷◌, ◌++◌, length, take, drop, map, Some, refl, ap, sym, ◌∙◌, arith}
use Rattle.std.proofs.lemmas.List.{length-take, length-drop, length-map, drop-drop, map-append, take_at, drop_at, take-append-drop}
use Rattle.std.specs.List.{slice_get, flat_map, AllByRecursion}
use Rattle.std.specs.Option.{option_and_then}
use Rattle.csv_grammar.specs.Records.{Field}
use Rattle.csv_grammar.specs.Files.{HasWidth, IsTable}
use Rattle.csv_fields.specs.Laws.{FieldsStandSo}
use Rattle.csv_grammar.specs.Raw.{RawField, raw_of, field_of}
use Rattle.csv_fields.specs.Between.{cut, raw_between}
use Rattle.csv_grammar.specs.Raw.{RawTable}
use Rattle.csv_grammar.proofs.ListLaws.{slice_get-drop, slice_get-take}
use Rattle.csv_index.specs.Index.{raw_table, Places, raws, row_fields, table_in, FitsFile, IsRawTable}
use Rattle.csv_fields.specs.Rows.{rows_cut, cell_at}

-- there is a field for each place
pub length-cut : (start : ℕ) (ends : List ℕ) (file : List ℕ) → length (cut start ends file) ≡ length ends
length-cut start [] file = refl
length-cut start (end ∷ ends) file = ap suc (length-cut (end + 1) ends file)

length-raws : (places : Places) (bytes : List ℕ) → length (raws places bytes) ≡ length places.ends
length-raws places bytes = length-map (cut places.start places.ends bytes) raw_between ∙ length-cut places.start places.ends bytes

pub length-rows_of : (n width : ℕ) (fields : List RawField) → length (rows_cut n width fields) ≡ n
length-rows_of zero width fields = refl
length-rows_of (suc n) width fields = ap suc (length-rows_of n width (drop width fields))

-- a row is the fields at its place
slice_get-rows_of : (n width : ℕ) (fields : List RawField) (row : ℕ) → row < n
    → slice_get (rows_cut n width fields) row ≡ Some (take width (drop (row * width) fields))
slice_get-rows_of zero width fields row h = absurd (omega arith)
slice_get-rows_of (suc n) width fields zero h = let e : 0 * width ≡ 0 = omega arith in rw e refl
slice_get-rows_of (suc n) width fields (suc row) h =
    let e : width + row * width ≡ suc row * width = omega arith in
    slice_get-rows_of n width (drop width fields) row (omega arith)
    ∙ ap (λ rest. Some (take width rest)) (drop-drop (row * width) width fields ∙ ap (λ k. drop k fields) e)

-- the rows, one after another, are the fields
no_fields : (fields : List RawField) → length fields ≡ 0 → [] ≡ fields
no_fields [] h = refl
no_fields (field ∷ fields) h = absurd (omega arith)

row_fields-rows_of : (n width : ℕ) (fields : List RawField) → length fields ≡ n * width → row_fields (rows_cut n width fields) ≡ fields
row_fields-rows_of zero width fields h = no_fields fields (omega arith)
row_fields-rows_of (suc n) width fields h =
    let rest : length (drop width fields) ≡ n * width = omega (arith, length-drop width fields) in
    ap (λ behind. take width fields ++ behind) (row_fields-rows_of n width (drop width fields) rest) ∙ take-append-drop width fields

-- and those from a row on
row_fields-drop : (n width : ℕ) (fields : List RawField) (row : ℕ) → row ≤ n → length fields ≡ n * width
    → row_fields (drop row (rows_cut n width fields)) ≡ drop (row * width) fields
row_fields-drop n width fields zero h size = let e : 0 * width ≡ 0 = omega arith in rw e (row_fields-rows_of n width fields size)
row_fields-drop zero width fields (suc row) h size = absurd (omega arith)
row_fields-drop (suc n) width fields (suc row) h size =
    let rest : length (drop width fields) ≡ n * width = omega (arith, length-drop width fields) in
    let e : width + row * width ≡ suc row * width = omega arith in
    row_fields-drop n width (drop width fields) row (omega arith) rest
    ∙ drop-drop (row * width) width fields ∙ ap (λ k. drop k fields) e

-- each row of enough fields is that wide
widths-rows_of : (n width : ℕ) (fields : List RawField) → n * width ≤ length fields → AllByRecursion (λ row. length row ≡ width) (rows_cut n width fields)
widths-rows_of zero width fields enough = tt
widths-rows_of (suc n) width fields enough =
    let rest : n * width ≤ length (drop width fields) = omega (arith, length-drop width fields) in
    (omega (arith, length-take width fields), widths-rows_of n width (drop width fields) rest)

-- ---- the table between the places
behind-header : (places : Places) (bytes : List ℕ) → FitsFile places bytes → length (drop places.width (raws places bytes)) ≡ places.rows * places.width
behind-header places bytes fits =
    let count : length places.ends ≡ places.rows * places.width + places.width = omega (arith, fits.count) in
    omega (arith, length-drop places.width (raws places bytes), length-raws places bytes)

pub rows-table_in : (places : Places) (bytes : List ℕ) → length (table_in places bytes).rows ≡ places.rows
rows-table_in places bytes = length-rows_of places.rows places.width (drop places.width (raws places bytes))

pub width-table_in : (places : Places) (bytes : List ℕ) → FitsFile places bytes → length (table_in places bytes).header ≡ places.width
width-table_in places bytes fits =
    let count : length places.ends ≡ places.rows * places.width + places.width = omega (arith, fits.count) in
    omega (arith, length-take places.width (raws places bytes), length-raws places bytes)

pub widths-table_in : (places : Places) (bytes : List ℕ) → FitsFile places bytes → AllByRecursion (λ row. length row ≡ places.width) (table_in places bytes).rows
widths-table_in places bytes fits = widths-rows_of places.rows places.width (drop places.width (raws places bytes)) (omega (arith, behind-header places bytes fits))

-- the field of a row and a column
pub cell-table_in : (places : Places) (bytes : List ℕ) (row col : ℕ) (raw : RawField) → row < places.rows → col < places.width
    → slice_get (raws places bytes) ((row + 1) * places.width + col) ≡ Some raw → cell_at (table_in places bytes).rows row col ≡ Some raw
cell-table_in places bytes row col raw r c e =
    let fields = raws places bytes in
    let at : places.width + (row * places.width + col) ≡ (row + 1) * places.width + col = omega arith in
    ap (option_and_then (λ row_fields. slice_get row_fields col)) (slice_get-rows_of places.rows places.width (drop places.width fields) row r)
    ∙ slice_get-take places.width (drop (row * places.width) (drop places.width fields)) col c
    ∙ slice_get-drop (row * places.width) (drop places.width fields) col
    ∙ slice_get-drop places.width fields (row * places.width + col)
    ∙ ap (slice_get fields) at ∙ e

-- the fields from a row on
pub fields-table_in : (places : Places) (bytes : List ℕ) (row : ℕ) → FitsFile places bytes → row ≤ places.rows
    → drop ((row + 1) * places.width) (raws places bytes) ≡ row_fields (drop row (table_in places bytes).rows)
fields-table_in places bytes row fits h =
    let fields = raws places bytes in
    let e : places.width + row * places.width ≡ (row + 1) * places.width = omega arith in
    sym (row_fields-drop places.rows places.width (drop places.width fields) row h (behind-header places bytes fits)
    ∙ drop-drop (row * places.width) places.width fields ∙ ap (λ k. drop k fields) e)

-- fields of whole rows, cut into rows again
rows_of-whole : (width : ℕ) (rows : List (List Field)) → AllByRecursion (HasWidth width) rows
    → rows_cut (length rows) width (map raw_of (flat_map (λ fields. fields) rows)) ≡ map (map raw_of) rows
rows_of-whole width [] h = refl
rows_of-whole width (fields ∷ rows) h =
    let behind = map raw_of (flat_map (λ fields. fields) rows) in
    let long : length (map raw_of fields) ≡ width = length-map fields raw_of ∙ h.0 in
    rw (map-append raw_of fields (flat_map (λ fields. fields) rows), take_at (map raw_of fields) behind width long, drop_at (map raw_of fields) behind width long)
    (ap (λ rest. map raw_of fields ∷ rest) (rows_of-whole width rows h.1))

-- a header and rows stand so between their places
pub table_stands : (places : Places) (bytes : List ℕ) (header : List Field) (rows : List (List Field))
    → raws places bytes ≡ map raw_of (flat_map (λ fields. fields) (header ∷ rows)) → places.width ≡ length header → places.rows ≡ length rows
    → AllByRecursion (HasWidth (length header)) rows → table_in places bytes ≡ raw_table header rows
table_stands places bytes header rows are width count widths =
    let behind = map raw_of (flat_map (λ fields. fields) rows) in
    let long : length (map raw_of header) ≡ places.width = length-map header raw_of ∙ sym width in
    let whole : raws places bytes ≡ map raw_of header ++ behind = are ∙ map-append raw_of header (flat_map (λ fields. fields) rows) in
    let first : take places.width (raws places bytes) ≡ map raw_of header = ap (take places.width) whole ∙ take_at (map raw_of header) behind places.width long in
    let rest : drop places.width (raws places bytes) ≡ behind = ap (drop places.width) whole ∙ drop_at (map raw_of header) behind places.width long in
    let cut_rows : rows_cut places.rows places.width (drop places.width (raws places bytes)) ≡ map (map raw_of) rows =
    rw (rest, count, width) (rows_of-whole (length header) rows widths) in
    let table : List RawField → List (List RawField) → RawTable = λ h rs. record { header = h; rows = rs } in
    ap (λ h. table h (rows_cut places.rows places.width (drop places.width (raws places bytes)))) first ∙ ap (table (map raw_of header)) cut_rows

-- where what stands as a field does is that field, the same holds of fields and of rows
fields_of-raw_of : FieldsStandSo → (fields : List Field) → map field_of (map raw_of fields) ≡ fields
fields_of-raw_of stand [] = refl
fields_of-raw_of stand (field ∷ fields) = rw (stand field, fields_of-raw_of stand fields) refl

rows_of-raw_of : FieldsStandSo → (rows : List (List Field)) → map (map field_of) (map (map raw_of) rows) ≡ rows
rows_of-raw_of stand [] = refl
rows_of-raw_of stand (fields ∷ rows) = rw (fields_of-raw_of stand fields, rows_of-raw_of stand rows) refl

-- so the file is that table
pub raw_table-is : FieldsStandSo → (bytes : List ℕ) (header : List Field) (rows : List (List Field)) (table : RawTable) → IsTable bytes header rows
    → table ≡ raw_table header rows → IsRawTable bytes table
raw_table-is stand bytes header rows table is e =
    let first : map field_of table.header ≡ header = ap (λ (t : RawTable). map field_of t.header) e ∙ fields_of-raw_of stand header in
    let rest : map (map field_of) table.rows ≡ rows = ap (λ (t : RawTable). map (map field_of) t.rows) e ∙ rows_of-raw_of stand rows in record {
      is = subst (λ h. IsTable bytes h (map (map field_of) table.rows)) (sym first) (subst (IsTable bytes header) (sym rest) is);
      stands = e ∙ ap (λ h. raw_table h rows) (sym first) ∙ ap (raw_table (map field_of table.header)) (sym rest);
    }
