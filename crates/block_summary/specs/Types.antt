-- The cells of a column that are kept as numbers: integers, decimals, booleans and dates.
use Rattle.cell_types.specs.Kind.{cell_of, number_of, typed_cell, IsNumberOf}
use Rattle.std.specs.Prelude.{◌≡◌, ℕ, ℤ, pos, ◌<◌, Bool, false, List, length, map, Option, None, Some, slice_index_or}
use Rattle.cell_types.specs.Value.{CellValue, null}
use Rattle.cell_types.specs.declared.kind.NumberKind.{NumberKind}
use Rattle.block_summary.specs.Cells.{cells_of}

abbrev pub numbers_of : List CellValue → List (Option ℤ)
numbers_of cells = map number_of cells

-- each number stands for a cell of the kind, where it is no null
abbrev pub AreNumbersOf : NumberKind → List Bool → List ℤ → Type 0
AreNumbersOf kind nulls values =
    (i : ℕ) → i < length values → slice_index_or nulls i false ≡ false → IsNumberOf kind (slice_index_or values i (pos 0))

-- the cells of numbers and nulls
abbrev pub cells_of_kind : NumberKind → List (Option ℤ) → List CellValue
cells_of_kind kind numbers = map (cell_of kind) numbers

-- the cells that values and marks of nulls stand for
abbrev pub number_cells : NumberKind → List Bool → List ℤ → List CellValue
number_cells kind nulls values = cells_of_kind kind (cells_of nulls values)

abbrev pub AllNumbersOf : NumberKind → List (Option ℤ) → Type 0
AllNumbersOf kind numbers = (i : ℕ) (number : ℤ) → slice_index_or numbers i None ≡ Some number → IsNumberOf kind number
