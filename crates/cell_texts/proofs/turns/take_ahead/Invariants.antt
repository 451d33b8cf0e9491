use Rattle.std.proofs.Common.{◌≡◌, ◌+◌, ◌-◌, ◌<◌, ◌≤◌, ℕ, get_or, length}
use Rattle.cell_texts.specs.Ahead.{HasPlace}
use Rattle.cell_texts.proofs.turns.take_ahead.Given as goal

abbrev pub invariant-loop-i : goal.invariant-loop-i
invariant-loop-i l =
    (l.rows ≡ record { stored = l.initial.rows.stored; rows = l.initial.rows.rows; taken = l.taken + l.i }) × (length l.ahead ≡ length l.initial.ahead)
    × ((place : ℕ) → l.taken ≤ place → place < l.taken + l.i → HasPlace l.initial.rows place (get_or l.ahead (place - l.taken) 0))
