use Rattle.row_eval.specs.Row.{number_in}
use Rattle.std.proofs.Common.{◌≡◌, ◌≤◌, [], drop, get_or, length}
use Rattle.std.specs.List.{filter_map}
use Rattle.row_eval.specs.Row.{cell}
use Rattle.aggregate_rows.specs.Sums.{sum_of}
use Rattle.aggregate_rows.proofs.sums.sum_of.Given as goal

-- the sum of the rows from one on
abbrev pub invariant-loop-i : goal.invariant-loop-i
invariant-loop-i l = record {
  within : l.i ≤ length l.numbers;
  sum : l.sum ≡ sum_of (filter_map (λ n. cell (number_in l.kind) (get_or l.columns.rows n []) l.place) (drop l.i l.numbers));
}

abbrev pub decreases-loop-i : goal.decreases-loop-i
decreases-loop-i l = l.i
