-- Some columns of rows.
use Rattle.std.specs.Prelude.{ℕ, List, Option, Some, None, map}
use Rattle.cell_types.specs.Value.{CellValue}
use Rattle.row_columns.specs.Kinds.{KindOf}
use Rattle.row_columns.specs.Picked.{kinds_at, values_at}

-- the values in some columns, or in all of them
abbrev pub selected_rows : Option (List ℕ) → List (List CellValue) → List (List CellValue)
selected_rows None rows = rows
selected_rows (Some places) rows = map (values_at places) rows

-- and the kinds of these columns
abbrev pub selected_kinds : Option (List ℕ) → List KindOf → List KindOf
selected_kinds None kinds = kinds
selected_kinds (Some places) kinds = kinds_at places kinds
