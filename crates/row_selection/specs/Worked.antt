-- Marks with the numbers that they stand for, written by hand.
use Rattle.std.specs.Prelude.{◌≡◌, true, false, [], ◌∷◌}
use Rattle.row_selection.specs.Marks.{marked_numbers}
use Rattle.row_selection.specs.Numbers.{numbers_from}

pub record WorkedSelections : Type 0 where
  pub none : marked_numbers 0 (false ∷ false ∷ []) ≡ []
  pub marks : marked_numbers 0 (false ∷ true ∷ true ∷ false ∷ true ∷ []) ≡ 1 ∷ 2 ∷ 4 ∷ []
  pub first : numbers_from 0 3 ≡ 0 ∷ 1 ∷ 2 ∷ []
