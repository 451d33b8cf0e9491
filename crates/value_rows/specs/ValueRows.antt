-- Rows of the same number of items, one after another in one list.
use Rattle.std.specs.Prelude.{ℕ, suc, zero, List, [], ◌∷◌, drop, map, slice_index_or, take}
use Rattle.cell_types.specs.Value.{CellValue}

-- `count` rows of `width` items: the first items, then those after them, and so on
abbrev pub rows_of : {X : Type 0} → ℕ → ℕ → List X → List (List X)
rows_of width zero items = []
rows_of width (suc count) items = take width items ∷ rows_of width count (drop width items)

pub record ValueRowsOf : Type 0 where
  pub width : ℕ
  pub rows : List (List CellValue)

-- the rows with these numbers, counted from 0
abbrev pub numbered : List ℕ → List (List CellValue) → List (List CellValue)
numbered numbers rows = map (λ number. slice_index_or rows number []) numbers
