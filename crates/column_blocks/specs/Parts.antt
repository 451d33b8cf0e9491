-- The cells of a column of rows of fields, as they stand in a file.
use Rattle.std.specs.Prelude.{◌≡◌, ℕ, false, List, [], ◌∷◌, map, Option, None, Some, Err, IfSome, slice_get}
use Rattle.std.specs.List.{AllByRecursion}
use Rattle.cell_types.specs.declared.fault.CellFault.{CellFault}
use Rattle.cell_types.specs.Column.{ColumnOf}
use Rattle.cell_types.specs.Value.{CellValue, null}
use Rattle.csv_fields.specs.Rows.{cell_at}
use Rattle.csv_grammar.specs.Raw.{RawField}
use Rattle.csv_fields.specs.Values.{value_in, value_or_null, HasValue}

-- the value of a field; null where there is none
abbrev pub field_cell : ColumnOf → Option RawField → CellValue
field_cell column None = null
field_cell column (Some field) = value_or_null (value_in (column, field))

-- the cells of a column of rows
abbrev pub part_cells : ColumnOf → ℕ → List (List RawField) → List CellValue
part_cells column col rows = map (λ fields. field_cell column (slice_get fields col)) rows

-- each field of the column has a value there
abbrev pub PartHasValues : ColumnOf → ℕ → List (List RawField) → Type 0
PartHasValues column col rows = AllByRecursion (λ fields. IfSome (slice_get fields col) (HasValue column)) rows

-- a field of the column has none, and this is why
pub record HasCellFault (column : ColumnOf) (col : ℕ) (rows : List (List RawField)) (fault : CellFault) : Type 0 where
  pub row : ℕ
  pub field : RawField
  pub at : cell_at rows row col ≡ Some field
  pub why : value_in (column, field) ≡ Err fault

-- the empty text alone is null, and no other text and no fault stands for it
pub record EmptyIsNull (column : ColumnOf) : Type 0 where
  pub nulls : column.nulls ≡ [] ∷ []
  pub default : column.default ≡ []
  pub required : column.required ≡ false
