use Rattle.std.proofs.Common.{◌≡◌, ◌≤◌, ◌++◌, [], get_or, length, take}
use Rattle.cell_types.specs.Rows.{values_at}
use Rattle.value_rows.proofs.rows.push_taken.Given as goal

-- the values with the first places came
abbrev pub invariant-loop-place : goal.invariant-loop-place
invariant-loop-place l = record {
  longer : length l.fn.values ≤ length l.values;
  values : l.values ≡ l.fn.values ++ values_at (take l.place-index l.places) (get_or l.block.rows l.row []);
}
