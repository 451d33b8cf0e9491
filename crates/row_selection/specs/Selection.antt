-- Rows that are selected, as the list of their numbers.
use Rattle.std.specs.Prelude.{ℕ, List, [], ◌∷◌}
use Rattle.row_selection.specs.declared.selection.Rows.{Rows}
use Rattle.row_selection.specs.declared.selection.Rows.TheVariants.{All, One, Few}
use Rattle.row_selection.specs.declared.selection.Selection.TheInside.{Inside}
use Rattle.row_selection.specs.Numbers.{numbers_from}

abbrev pub chosen_view : Rows → List ℕ
chosen_view (All count) = numbers_from 0 count
chosen_view (One row) = row ∷ []
chosen_view (Few rows) = rows.items

abbrev pub selected_view : Inside → List ℕ
selected_view selection = chosen_view selection.rows
