use Rattle.std.proofs.Common.{◌≡◌, ◌≤◌, drop, length}
use Rattle.cell_types.specs.Value.{value_view}
use Rattle.query_meaning.specs.Apply.{computed_value}
use Rattle.row_columns.specs.Picked.{numbered}
use Rattle.aggregate_rows.specs.Computed.{aggregate_of}
use Rattle.aggregate_rows.proofs.computed.extreme_in.Given as goal

-- the best value of the rows from one on
abbrev pub invariant-loop-i : goal.invariant-loop-i
invariant-loop-i l = record {
  within : l.i ≤ length l.numbers;
  best : value_view l.best ≡ computed_value (numbered (drop l.i l.numbers) l.columns.rows) (aggregate_of l.extreme l.place);
}

abbrev pub decreases-loop-i : goal.decreases-loop-i
decreases-loop-i l = l.i
