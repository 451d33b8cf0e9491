-- Rows that are marked.
use Rattle.std.specs.Prelude.{◌≡◌, ◌<◌, ℕ, Bool, true, false, List, [], ◌∷◌, length, slice_index_or}
use Rattle.cell_types.specs.Value.{CellValue}
use Rattle.row_eval.specs.declared.truth.Truth.{Truth}
use Rattle.row_eval.specs.declared.truth.Truth.TheVariants.{True}

-- a condition keeps a row where it is true, not where it is false or null
abbrev pub keeps_row : Truth → Bool
keeps_row True = true
keeps_row _ = false

-- a row is marked
abbrev pub is_marked : Bool → Bool
is_marked mark = mark

-- the elements that are marked, in their order
abbrev pub marked : {X : Type 0} → List Bool → List X → List X
marked [] xs = []
marked (mark ∷ marks) [] = []
marked (true ∷ marks) (x ∷ xs) = x ∷ marked marks xs
marked (false ∷ marks) (x ∷ xs) = marked marks xs

-- a fact holds of each row that is marked
abbrev pub HoldsOnMarked : (List CellValue → Type 0) → List Bool → List (List CellValue) → Type 0
HoldsOnMarked P marks rows = (row : ℕ) → row < length rows → slice_index_or marks row false ≡ true → P (slice_index_or rows row [])
