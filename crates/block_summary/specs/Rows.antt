-- The rows that a summary is built of.
use Rattle.std.specs.Prelude.{List, Vec, map}
use Rattle.cell_types.specs.declared.value.Value.{Value}
use Rattle.cell_types.specs.Value.{CellValue, value_view}

abbrev pub row_views : {A : Type 0} → List (Vec Value A) → List (List CellValue)
row_views rows = map (λ row. map value_view row.items) rows
