-- The header of a file against columns, and the values of its rows (Model for Tabular Data and Metadata on the Web, section 6.6).
use Rattle.std.specs.Prelude.{ℕ, ◌+◌, Bool, ◌||◌, List, [], ◌∷◌, map, Option, None, Some, if◌then◌else◌, Result, Ok, Err}
use Rattle.std.specs.List.{list_any}
use Rattle.std.specs.Result.{result_err}
use Rattle.std.specs.Str.{bytes_eq}
use Rattle.csv_grammar.specs.Raw.{RawField, field_of}
use Rattle.csv_grammar.specs.Records.{Field, content}
use Rattle.cell_types.specs.declared.fault.CellFault.{CellFault}
use Rattle.cell_types.specs.Value.{CellValue}
use Rattle.cell_types.specs.Column.{ColumnOf}
use Rattle.cell_types.specs.Cell.{value_of}

-- a header cell may be the column's name or one of its titles
abbrev pub is_called : ColumnOf → List ℕ → Bool
is_called column bytes = bytes_eq column.name bytes || list_any (λ title. bytes_eq title bytes) column.titles

-- the first place, counted on from place, where a column and a header cell do not match or one of them is missing
abbrev pub mismatch_from : ℕ → List ColumnOf → List Field → Option ℕ
mismatch_from place [] [] = None
mismatch_from place [] (field ∷ fields) = Some place
mismatch_from place (column ∷ columns) [] = Some place
mismatch_from place (column ∷ columns) (field ∷ fields) =
    if is_called column (content field) then mismatch_from (place + 1) columns fields else Some place

-- a value and those after it, or the first that is missing, by its place, and why
abbrev pub value_then : ℕ → Result CellValue CellFault → Result (List CellValue) (ℕ × CellFault) → Result (List CellValue) (ℕ × CellFault)
value_then place (Ok value) (Ok values) = Ok (value ∷ values)
value_then place (Ok value) (Err later) = Err later
value_then place (Err fault) values = Err (place, fault)

-- the values of a record, or the first column, counted on from place, whose cell has none, and why
abbrev pub values_from : ℕ → List ColumnOf → List Field → Result (List CellValue) (ℕ × CellFault)
values_from place [] fields = Ok []
values_from place (column ∷ columns) [] = Ok []
values_from place (column ∷ columns) (field ∷ fields) =
    value_then place (value_of column (content field)) (values_from (place + 1) columns fields)

-- a row and those after it, or the first cell that has no value
abbrev pub row_then : ℕ → Result (List CellValue) (ℕ × CellFault) → Result (List (List CellValue)) (ℕ × ℕ × CellFault) → Result (List (List CellValue)) (ℕ × ℕ × CellFault)
row_then row (Ok values) (Ok rows) = Ok (values ∷ rows)
row_then row (Ok values) (Err later) = Err later
row_then row (Err found) rows = Err (row, found.0, found.1)

-- the rows of values, or the first cell, row by row and counted on from row, that has none, and why
abbrev pub rows_from : ℕ → List ColumnOf → List (List Field) → Result (List (List CellValue)) (ℕ × ℕ × CellFault)
rows_from row columns [] = Ok []
rows_from row columns (record_fields ∷ records) = row_then row (values_from 0 columns record_fields) (rows_from (row + 1) columns records)

-- the same of fields as they stand in a file: the first header cell that does not match, or lacks its column, or is lacked by one
abbrev pub mismatch_of : List ColumnOf → List RawField → Option ℕ
mismatch_of columns header = mismatch_from 0 columns (map field_of header)

-- what is wrong with rows of fields, the first of which has that number
abbrev pub wrong_of : ℕ → List ColumnOf → List (List RawField) → Option (ℕ × ℕ × CellFault)
wrong_of first columns rows = result_err (rows_from first columns (map (map field_of) rows))
