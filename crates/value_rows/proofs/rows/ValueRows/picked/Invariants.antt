use Rattle.std.proofs.Common.{◌≡◌, ◌≤◌, ◌*◌, length, map, take}
use Rattle.cell_types.specs.Rows.{values_at}
use Rattle.value_rows.specs.ValueRows.{rows_of}
use Rattle.value_rows.proofs.rows.ValueRows.picked.Given as goal

-- the values of the first rows
abbrev pub invariant-loop-number : goal.invariant-loop-number
invariant-loop-number l = record {
  most : l.number ≤ length l.self.rows;
  long : length l.values ≡ l.number * length l.places;
  rows : rows_of (length l.places) l.number l.values ≡ map (values_at l.places) (take l.number l.self.rows);
}
