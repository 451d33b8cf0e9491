-- Columns as their callers see them: rows of values, each value of the kind of its column.
use Rattle.std.specs.Prelude.{List, []}
use Rattle.cell_types.specs.Value.{CellValue}
use Rattle.row_columns.specs.Kinds.{KindOf}

pub record ColumnsOf : Type 0 where
  pub kinds : List KindOf
  pub rows : List (List CellValue)

-- no columns, and no rows
abbrev pub no_columns : ColumnsOf
no_columns = record { kinds = []; rows = [] }
