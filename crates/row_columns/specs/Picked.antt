-- Some rows of others, and some values of a row.
pub use Rattle.cell_types.specs.Rows.{values_at}
pub use Rattle.value_rows.specs.ValueRows.{numbered}
use Rattle.std.specs.Prelude.{ℕ, List, get_or, map}
use Rattle.row_columns.specs.Kinds.{KindOf, any}

-- the kinds of the columns with these places
abbrev pub kinds_at : List ℕ → List KindOf → List KindOf
kinds_at places kinds = map (λ place. get_or kinds place any) places
