-- The cells of a column of numbers, and of one of texts, as they are read.
use Rattle.std.specs.Prelude.{ℕ, List, [], ◌∷◌, ◌++◌, Option, None, Some}
use Rattle.cell_types.specs.declared.kind.NumberKind.{NumberKind}
use Rattle.cell_types.specs.Value.{CellValue, null, text}

-- what the numbers stand for, how many cells there are to be, and those so far
pub record NumberReaderOf : Type 0 where
  pub kind : NumberKind
  pub rows : ℕ
  pub cells : List CellValue

pub record TextReaderOf : Type 0 where
  pub rows : ℕ
  pub cells : List CellValue

-- one more cell
abbrev pub numbers_with : NumberReaderOf → CellValue → NumberReaderOf
numbers_with reader cell = record reader { cells = reader.cells ++ cell ∷ [] }

abbrev pub texts_with : TextReaderOf → CellValue → TextReaderOf
texts_with reader cell = record reader { cells = reader.cells ++ cell ∷ [] }

-- more cells
abbrev pub numbers_with_cells : NumberReaderOf → List CellValue → NumberReaderOf
numbers_with_cells reader cells = record reader { cells = reader.cells ++ cells }

abbrev pub texts_with_cells : TextReaderOf → List CellValue → TextReaderOf
texts_with_cells reader cells = record reader { cells = reader.cells ++ cells }

-- the cell of a text, or a null
abbrev pub text_or_null : Option (List ℕ) → CellValue
text_or_null None = null
text_or_null (Some t) = text t
