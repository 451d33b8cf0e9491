use Rattle.std.proofs.Common.{◌≡◌, ◌++◌, [], get_or, take}
use Rattle.cell_types.specs.Rows.{values_at}
use Rattle.value_rows.proofs.rows.ValueRows.push_picked.Given as goal

-- the values with the first places came
abbrev pub invariant-loop-place : goal.invariant-loop-place
invariant-loop-place l = l.values ≡ l.fn.values ++ values_at (take l.place-index l.places) (get_or l.self.rows l.row [])
