-- The rows so far are in slots.
use Rattle.key_index.specs.Reading.{SeatsRows}
use Rattle.key_index.proofs.reading.seat_rows.Given as goal

abbrev pub invariant-loop-row : goal.invariant-loop-row
invariant-loop-row l = SeatsRows l.places l.columns l.rows (record { row = l.row; slots = l.slots; repeated = l.repeated })
