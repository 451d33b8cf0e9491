-- The values of fields as they stand in a file.
use Rattle.std.specs.Prelude.{◌≡◌, List, [], ◌∷◌, length, map, Result, Ok, Err}
use Rattle.std.specs.List.{zip, AllByRecursion}
use Rattle.csv_grammar.specs.Raw.{RawField, raw_content}
use Rattle.csv_grammar.specs.Raw.{RawTable}
use Rattle.cell_types.specs.declared.fault.CellFault.{CellFault}
use Rattle.cell_types.specs.Value.{CellValue, null}
use Rattle.cell_types.specs.Column.{ColumnOf}
use Rattle.cell_types.specs.Cell.{value_of}

-- the value where there is one
abbrev pub value_or_null : Result CellValue CellFault → CellValue
value_or_null (Ok value) = value
value_or_null (Err fault) = null

abbrev pub value_in : ColumnOf × RawField → Result CellValue CellFault
value_in pair = value_of pair.0 (raw_content pair.1)

-- a field has a value in its column
abbrev pub HasValue : ColumnOf → RawField → Type 0
HasValue column field = value_of column (raw_content field) ≡ Ok (value_or_null (value_of column (raw_content field)))

-- the values of a row of fields
abbrev pub values_in : List ColumnOf → List RawField → List CellValue
values_in columns fields = map (λ pair. value_or_null (value_in pair)) (zip columns fields)

-- and of rows
abbrev pub rows_in : List ColumnOf → List (List RawField) → List (List CellValue)
rows_in columns rows = map (values_in columns) rows

-- the header and each row of a file have a field for each column
pub record FitsColumns (columns : List ColumnOf) (file : RawTable) : Type 0 where
  pub header : length file.header ≡ length columns
  pub rows : AllByRecursion (λ fields. length fields ≡ length columns) file.rows

-- each field of a row has a value in its column
abbrev pub HaveValues : List ColumnOf → List RawField → Type 0
HaveValues [] fields = Unit {0}
HaveValues (column ∷ columns) [] = Unit {0}
HaveValues (column ∷ columns) (field ∷ fields) =
    HasValue column field × HaveValues columns fields

abbrev pub AllHaveValues : List ColumnOf → List (List RawField) → Type 0
AllHaveValues columns [] = Unit {0}
AllHaveValues columns (fields ∷ rows) = HaveValues columns fields × AllHaveValues columns rows
