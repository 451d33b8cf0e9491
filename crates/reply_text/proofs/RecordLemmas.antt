-- The lines of rows are lines of the grammar.
use Rattle.std.proofs.Common.{◌≡◌, ℕ, ◌<◌, false, List, [], ◌∷◌, ◌++◌, length, map, None, refl, sym, ap, ap₂, ◌∙◌, append-nil, arith}
use Rattle.std.proofs.lemmas.List.{length-map, map-id}
use Rattle.std.proofs.lemmas.Simd.{map-map}
use Rattle.std.specs.List.{flat_map, join_with_byte, AllByRecursion}
use Rattle.csv_grammar.specs.Bytes.{comma, carriage_return, line_feed}
use Rattle.csv_grammar.specs.Records.{Field, unquoted, crlf, Line, print_field, print_record, print_line, IsField, IsRecord, AreRecords}
use Rattle.cell_types.specs.Value.{CellValue}
use Rattle.result_rows.specs.Rows.{RowsOf}
use Rattle.reply_values.specs.Printed.{printed_value}
use Rattle.reply_values.specs.ReadBack.{field_of_value, ValuesReadBack}
use Rattle.reply_text.specs.Csv.{csv_line, row_line, csv_text}
use Rattle.reply_text.specs.Laws.{FitCsv}

-- ---- records

-- the bytes of fields are their texts with commas between
print_record_of : {X : Type 0} (f : X → Field) (g : X → List ℕ) → ((x : X) → print_field (f x) ≡ g x) → (xs : List X)
    → print_record (map f xs) ≡ join_with_byte comma (map g xs)
print_record_of f g same [] = refl
print_record_of f g same (x ∷ []) = same x
print_record_of f g same (x ∷ y ∷ xs) = ap₂ (λ a b. a ++ comma ∷ b) (same x) (print_record_of f g same (y ∷ xs))

-- the record of a row
abbrev row_fields : List CellValue → List Field
row_fields values = map field_of_value values

fields_are : ValuesReadBack → (values : List CellValue) → AllByRecursion IsField (row_fields values)
fields_are law [] = tt
fields_are law (value ∷ values) = ((law.csv value).valid, fields_are law values)

names_are : (names : List (List ℕ)) → AllByRecursion (λ name. IsField (unquoted name)) names → AllByRecursion IsField (map unquoted names)
names_are [] plain = tt
names_are (name ∷ names) plain = (plain.0, names_are names plain.1)

-- ---- the text

abbrev line_of : List Field → Line
line_of fields = record { fields = fields; end = crlf }

abbrev lines_of : RowsOf → List Line
lines_of rows = line_of (map unquoted rows.names) ∷ map (λ row. line_of (row_fields row)) rows.rows

abbrev pub records_of_rows : RowsOf → List (List Field)
records_of_rows rows = map unquoted rows.names ∷ map row_fields rows.rows

print_row : ValuesReadBack → (values : List CellValue) → print_line (line_of (row_fields values)) ≡ row_line values
print_row law values = ap (λ w. w ++ carriage_return ∷ line_feed ∷ []) (print_record_of field_of_value (printed_value false) (λ value. (law.csv value).printed) values)

print_names : (names : List (List ℕ)) → print_line (line_of (map unquoted names)) ≡ csv_line names
print_names names =
    ap (λ w. w ++ carriage_return ∷ line_feed ∷ [])
    (print_record_of unquoted (λ name. name) (λ name. refl) names ∙ ap (join_with_byte comma) (map-id names))

print_rows : ValuesReadBack → (rows : List (List CellValue)) → flat_map print_line (map (λ row. line_of (row_fields row)) rows) ≡ flat_map row_line rows
print_rows law [] = refl
print_rows law (row ∷ rows) = ap₂ (λ a b. a ++ b) (print_row law row) (print_rows law rows)

rows_are : ValuesReadBack → (rows : List (List CellValue)) → AllByRecursion (λ row. 0 < length row) rows
    → AllByRecursion (λ line. IsRecord line.fields) (map (λ row. line_of (row_fields row)) rows)
rows_are law [] some = tt
rows_are law (row ∷ rows) some = ((omega (arith, some.0, length-map row field_of_value), fields_are law row), rows_are law rows some.1)

names_record : (names : List (List ℕ)) → 0 < length names → AllByRecursion (λ name. IsField (unquoted name)) names → IsRecord (map unquoted names)
names_record names some plain = (omega (arith, some, length-map names unquoted), names_are names plain)

-- the body of rows has the records of the rows
pub rows_are_records : ValuesReadBack → (rows : RowsOf) → FitCsv rows → AreRecords (csv_text rows) (records_of_rows rows)
rows_are_records law rows lines = record {
  tree = record { lines = lines_of rows; last = None };
  valid = record { lines = (names_record rows.names lines.some lines.names, rows_are law rows.rows lines.values); last = tt };
  printed = sym (append-nil _ ∙ ap₂ (λ a b. a ++ b) (print_names rows.names) (print_rows law rows.rows));
  are = sym (append-nil _ ∙ ap (λ w. map unquoted rows.names ∷ w) (map-map (λ (line : Line). line.fields) (λ row. line_of (row_fields row)) rows.rows));
}
