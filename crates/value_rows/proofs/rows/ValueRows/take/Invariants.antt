use Rattle.std.proofs.Common.{◌≡◌, ◌++◌, map, take}
use Rattle.cell_types.specs.Rows.{values_at}
use Rattle.value_rows.specs.ValueRows.{numbered}
use Rattle.value_rows.proofs.rows.ValueRows.take.Given as goal

-- the rows with the first numbers came
abbrev pub invariant-loop-number : goal.invariant-loop-number
invariant-loop-number l = record {
  width : l.self.width ≡ l.initial.self.width;
  rows : l.self.rows ≡ l.initial.self.rows ++ map (values_at l.places) (numbered (take l.number-index l.numbers) l.block.rows);
}
