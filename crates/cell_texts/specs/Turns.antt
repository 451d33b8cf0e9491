-- What rows that are taken some at a time hold inside.
use Rattle.std.specs.Prelude.{◌≡◌, ◌≤◌, ◌<◌, ◌-◌, ◌+◌, ℕ, get_or, length}
use Rattle.result_rows.specs.Rows.{OrderedOf}
use Rattle.cell_texts.specs.declared.turns.RowTurns.TheInside.{Inside}
use Rattle.cell_texts.specs.Ahead.{HasPlace}

abbrev pub turns_view : Inside → OrderedOf
turns_view turns = record { stored = turns.rows.stored; rows = turns.rows.rows; taken = turns.given }

-- rows that were taken and not given have their numbers
pub record HaveTaken (turns : Inside) : Type 0 where
  pub taken_is : turns.rows.taken ≡ turns.taken
  pub first : turns.first ≤ turns.given
  pub given : turns.given ≤ turns.taken
  pub room : turns.taken ≤ turns.first + length turns.ahead
  pub within : turns.taken ≤ length turns.rows.rows.rows
  pub numbers : (place : ℕ) → turns.given ≤ place → place < turns.taken → HasPlace turns.rows place (get_or turns.ahead (place - turns.first) 0)
