-- Rows that are taken before they are needed.
use Rattle.std.specs.Prelude.{◌≡◌, ◌<◌, ℕ, [], get_or, length}
use Rattle.result_rows.specs.Rows.{OrderedOf}

-- a number, among the rows as they stood, of the row that has a place in the order
pub record HasPlace (rows : OrderedOf) (place number : ℕ) : Type 0 where
  pub within : number < length rows.stored.rows
  pub row : get_or rows.stored.rows number [] ≡ get_or rows.rows.rows place []
