-- What the rows of an answer hold inside.
use Rattle.std.specs.Prelude.{◌≡◌, length, map, string_bytes}
use Rattle.result_rows.specs.declared.rows.Rows.TheInside.{Inside}
use Rattle.result_rows.specs.Rows.{RowsOf}

abbrev pub rows_view : Inside → RowsOf
rows_view rows = record {
  names = map string_bytes rows.names.items;
  rows = rows.columns.rows;
  count = rows.count;
}

-- there is a column for each name
pub record AreUnderNames (rows : Inside) : Type 0 where
  pub width : length rows.columns.kinds ≡ length rows.names.items
