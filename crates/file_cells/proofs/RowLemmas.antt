-- Crates above may cite this file. The values of rows of fields, one cell after another.
use Rattle.std.proofs.Common.{◌≡◌, ℕ, ◌+◌, ◌≤◌, List, [], ◌∷◌, length, drop, map, Option, Some, None, Result, Ok, Err, slice_get, refl, ap, ◌∙◌}
use Rattle.std.proofs.lemmas.List.{drop_all}
use Rattle.std.specs.Result.{result_err}
use Rattle.csv_grammar.specs.Raw.{RawField, raw_content, field_of}
use Rattle.cell_types.specs.Value.{CellValue}
use Rattle.cell_types.specs.declared.fault.CellFault.{CellFault}
use Rattle.cell_types.specs.Column.{ColumnOf, column_view}
use Rattle.cell_types.specs.Cell.{value_of}
use Rattle.cell_types.specs.declared.column.Column.{Column}
use Rattle.file_cells.specs.Rows.{values_from, value_then, rows_from, row_then}
use Rattle.csv_fields.specs.Values.{value_or_null, values_in, HaveValues, AllHaveValues}
use Rattle.file_cells.proofs.PlaceLemmas.{drop-from_slice_get}

-- ---- one row
pub value_then-none : (place : ℕ) (value : Result CellValue CellFault) (rest : Result (List CellValue) (ℕ × CellFault)) → result_err (value_then place value rest) ≡ None
    → (value ≡ Ok (value_or_null value)) × (result_err rest ≡ None)
value_then-none place (Ok value) (Ok values) e = (refl, refl)
value_then-none place (Ok value) (Err later) e = (refl, e)
value_then-none place (Err why) rest e = cc

pub value_then-ok : (place : ℕ) (value : Result CellValue CellFault) (rest : Result (List CellValue) (ℕ × CellFault)) (v : CellValue) (vs : List CellValue)
    → value ≡ Ok v → rest ≡ Ok vs → value_then place value rest ≡ Ok (v ∷ vs)
value_then-ok place value rest v vs e f = rw (e, f) refl

-- past a value, what is wrong is what is wrong with the rest
pub value_then-past : (place : ℕ) (value : Result CellValue CellFault) (rest : Result (List CellValue) (ℕ × CellFault)) → result_err value ≡ None
    → result_err (value_then place value rest) ≡ result_err rest
value_then-past place (Ok value) (Ok values) e = refl
value_then-past place (Ok value) (Err later) e = refl
value_then-past place (Err why) rest e = cc

-- the values of a row in which nothing is wrong
pub values_from-none : (place : ℕ) (columns : List ColumnOf) (fields : List RawField) → result_err (values_from place columns (map field_of fields)) ≡ None
    → HaveValues columns fields × (values_from place columns (map field_of fields) ≡ Ok (values_in columns fields))
values_from-none place [] fields e = (tt, refl)
values_from-none place (column ∷ columns) [] e = (tt, refl)
values_from-none place (column ∷ columns) (field ∷ fields) e =
    let value = value_of column (raw_content field) in
    let rest = values_from (place + 1) columns (map field_of fields) in
    let parts = value_then-none place value rest e in
    let later = values_from-none (place + 1) columns fields parts.1 in
    ((parts.0, later.0), value_then-ok place value rest (value_or_null value) (values_in columns fields) parts.0 later.1)

-- what is wrong in a row from a column on
abbrev pub wrong_from : ℕ → List Column → List RawField → Option (ℕ × CellFault)
wrong_from col columns fields = result_err (values_from col (map column_view (drop col columns)) (map field_of (drop col fields)))

pub wrong_from-step : (columns : List Column) (fields : List RawField) (col : ℕ) (column : Column) (raw : RawField)
    → slice_get columns col ≡ Some column → slice_get fields col ≡ Some raw
    → wrong_from col columns fields ≡ result_err (value_then col (value_of (column_view column) (raw_content raw)) (values_from (col + 1) (map column_view (drop (col + 1) columns)) (map field_of (drop (col + 1) fields))))
wrong_from-step columns fields col column raw e f =
    rw (drop-from_slice_get columns col column e, drop-from_slice_get fields col raw f) refl

pub wrong_from-past : (columns : List Column) (fields : List RawField) (col : ℕ) (column : Column) (raw : RawField)
    → slice_get columns col ≡ Some column → slice_get fields col ≡ Some raw → result_err (value_of (column_view column) (raw_content raw)) ≡ None
    → wrong_from col columns fields ≡ wrong_from (col + 1) columns fields
wrong_from-past columns fields col column raw e f value =
    wrong_from-step columns fields col column raw e f ∙ value_then-past col (value_of (column_view column) (raw_content raw)) _ value

pub wrong_from-here : (columns : List Column) (fields : List RawField) (col : ℕ) (column : Column) (raw : RawField) (why : CellFault)
    → slice_get columns col ≡ Some column → slice_get fields col ≡ Some raw → value_of (column_view column) (raw_content raw) ≡ Err why
    → wrong_from col columns fields ≡ Some (col, why)
wrong_from-here columns fields col column raw why e f value =
    wrong_from-step columns fields col column raw e f ∙ rw value refl

pub wrong_from-end : (columns : List Column) (fields : List RawField) (col : ℕ) → length columns ≤ col → wrong_from col columns fields ≡ None
wrong_from-end columns fields col h = rw (drop_all col columns h) refl

-- ---- rows
pub row_then-none : (row : ℕ) (values : Result (List CellValue) (ℕ × CellFault)) (rest : Result (List (List CellValue)) (ℕ × ℕ × CellFault))
    → result_err (row_then row values rest) ≡ None → (result_err values ≡ None) × (result_err rest ≡ None)
row_then-none row (Ok values) (Ok rows) e = (refl, refl)
row_then-none row (Ok values) (Err later) e = (refl, e)
row_then-none row (Err found) rest e = cc

pub row_then-ok : (row : ℕ) (values : Result (List CellValue) (ℕ × CellFault)) (rest : Result (List (List CellValue)) (ℕ × ℕ × CellFault)) (v : List CellValue) (vs : List (List CellValue))
    → values ≡ Ok v → rest ≡ Ok vs → row_then row values rest ≡ Ok (v ∷ vs)
row_then-ok row values rest v vs e f = rw (e, f) refl

pub row_then-past : (row : ℕ) (values : Result (List CellValue) (ℕ × CellFault)) (rest : Result (List (List CellValue)) (ℕ × ℕ × CellFault)) → result_err values ≡ None
    → result_err (row_then row values rest) ≡ result_err rest
row_then-past row (Ok values) (Ok rows) e = refl
row_then-past row (Ok values) (Err later) e = refl
row_then-past row (Err found) rest e = cc

pub row_then-here : (row : ℕ) (values : Result (List CellValue) (ℕ × CellFault)) (rest : Result (List (List CellValue)) (ℕ × ℕ × CellFault)) (col : ℕ) (why : CellFault)
    → result_err values ≡ Some (col, why) → result_err (row_then row values rest) ≡ Some (row, col, why)
row_then-here row (Ok values) rest col why e = cc
row_then-here row (Err found) rest col why e =
    let same : found ≡ (col, why) = cc in
    ap (λ pair. Some (row, pair.0, pair.1)) same

-- the rows of values where nothing is wrong
pub rows_from-none : (row : ℕ) (columns : List ColumnOf) (rows : List (List RawField)) → result_err (rows_from row columns (map (map field_of) rows)) ≡ None
    → AllHaveValues columns rows × (rows_from row columns (map (map field_of) rows) ≡ Ok (map (values_in columns) rows))
rows_from-none row columns [] e = (tt, refl)
rows_from-none row columns (fields ∷ rows) e =
    let values = values_from 0 columns (map field_of fields) in
    let rest = rows_from (row + 1) columns (map (map field_of) rows) in
    let parts = row_then-none row values rest e in
    let first = values_from-none 0 columns fields parts.0 in
    let later = rows_from-none (row + 1) columns rows parts.1 in
    ((first.0, later.0), row_then-ok row values rest (values_in columns fields) (map (values_in columns) rows) first.1 later.1)

-- what is wrong from a row on
abbrev pub wrong_in_rows : ℕ → List ColumnOf → List (List RawField) → Option (ℕ × ℕ × CellFault)
wrong_in_rows row columns rows = result_err (rows_from row columns (map (map field_of) (drop row rows)))

-- past the last row
pub wrong_in_rows-end : (columns : List ColumnOf) (rows : List (List RawField)) (row : ℕ) → length rows ≤ row → wrong_in_rows row columns rows ≡ None
wrong_in_rows-end columns rows row h = rw (drop_all row rows h) refl
