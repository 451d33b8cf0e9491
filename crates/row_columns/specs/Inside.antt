-- What columns hold inside.
use Rattle.std.specs.Prelude.{◌<◌, ℕ, List, map}
use Rattle.std.specs.List.{AllByRecursion}
use Rattle.cell_types.specs.Value.{CellValue}
use Rattle.row_columns.specs.declared.columns.Columns.TheInside.{Inside}
use Rattle.row_columns.specs.declared.row_ref.RowRef.TheInside as lent
use Rattle.row_columns.specs.Columns.{ColumnsOf}
use Rattle.row_columns.specs.Store.{end_of, stored_kinds, stored_row, IsStoredWide}

abbrev pub columns_view : Inside → ColumnsOf
columns_view columns = record { kinds = stored_kinds columns.store; rows = map (stored_row columns.store) columns.numbers }

-- each number is that of a row, which has a value for each column
pub record HoldRows (columns : Inside) : Type 0 where
  pub wide : IsStoredWide columns.store
  pub within : AllByRecursion (λ (number : ℕ). number < end_of columns.store) columns.numbers

-- what a row that is lent holds inside
abbrev pub row_ref_view : lent.Inside → List CellValue
row_ref_view row = stored_row row.store.now row.number

pub record IsLent (row : lent.Inside) : Type 0 where
  pub wide : IsStoredWide row.store.now
  pub within : row.number < end_of row.store.now
