-- The columns that an expression may name.
use Rattle.std.specs.Prelude.{ℕ, List, map}
use Rattle.cell_types.specs.declared.kind.ColumnKind.{ColumnKind}
use Rattle.odata_types.specs.declared.types.ColumnType.{ColumnType}
use Rattle.odata_types.specs.declared.types.InputColumn.{InputColumn}

-- a kind of values with the greatest size of its numbers
abbrev pub of_size : ColumnKind → ℕ → ColumnType
of_size kind size = record { kind = kind; size = size }

pub record InputOf : Type 0 where
  pub name : List ℕ
  pub column_type : ColumnType

abbrev pub input_view : InputColumn → InputOf
input_view column = record { name = column.name.now; column_type = column.column_type }

abbrev pub inputs_view : List InputColumn → List InputOf
inputs_view columns = map input_view columns
