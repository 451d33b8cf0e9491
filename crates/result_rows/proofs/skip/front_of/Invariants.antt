use Rattle.std.proofs.Common.{◌-◌, ◌≡◌, ◌≤◌, true, false, take, drop, length}
use Rattle.std.specs.List.{AllByRecursion}
use Rattle.sort_rows.specs.Runs.{row_at, rows_of_run}
use Rattle.result_rows.specs.Fronts.{precedes}
use Rattle.result_rows.proofs.skip.front_of.Given as goal

-- the rows before `low` come before the pivot, and those from `high` on do not
abbrev pub invariant-loop-low : goal.invariant-loop-low
invariant-loop-low l = record {
  rising : l.low ≤ l.high;
  within : l.high ≤ length l.run;
  front : AllByRecursion (λ row. precedes l.plain (row_at l.columns.rows l.pivot) l.ties row ≡ true) (take l.low (rows_of_run l.columns.rows l.run));
  others : AllByRecursion (λ row. precedes l.plain (row_at l.columns.rows l.pivot) l.ties row ≡ false) (drop l.high (rows_of_run l.columns.rows l.run));
}

abbrev pub decreases-loop-low : goal.decreases-loop-low
decreases-loop-low l = l.high - l.low
