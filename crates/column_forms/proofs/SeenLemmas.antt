-- Cells that are seen as they are.
use Rattle.std.proofs.Common.{ℕ, List, [], ◌∷◌, inl, refl}
use Rattle.column_forms.specs.CellsSeen.{HasPlainSpaces, no_byte, next_byte}

pub as_it_is : (cell : List ℕ) → HasPlainSpaces cell cell
as_it_is [] = no_byte
as_it_is (byte ∷ cell) = next_byte (byte ∷ cell) cell cell byte (inl refl) (as_it_is cell)
