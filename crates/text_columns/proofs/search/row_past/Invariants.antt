use Rattle.std.proofs.Common.{◌≤◌, ◌-◌, length}
use Rattle.text_columns.specs.Places.{place_list}
use Rattle.text_columns.proofs.SearchLemmas.{EndBy}
use Rattle.text_columns.proofs.search.row_past.Given as goal

abbrev pub invariant-loop-row : goal.invariant-loop-row
invariant-loop-row l = record {
  low : l.first ≤ l.row;
  high : l.row ≤ length (place_list l.ends);
  by : EndBy (place_list l.ends) l.first l.row l.at;
}

abbrev pub decreases-loop-row : goal.decreases-loop-row
decreases-loop-row l = length (place_list l.ends) - l.row
