use Rattle.std.proofs.Common.{◌-◌, ◌≤◌, ◌<◌, ◌<ℤ◌, ℕ}
use Rattle.key_index.specs.Key.{row_key}
use Rattle.key_index.specs.Keys.{typed_row}
use Rattle.key_index.specs.Rising.{key_number}
use Rattle.key_index.proofs.rising.row_among.Given as goal

-- the number is above the keys before the lower end, and below those from the upper one on
abbrev pub invariant-loop-low : goal.invariant-loop-low
invariant-loop-low l = record {
  apart : l.low ≤ l.high;
  within : l.high ≤ l.rows;
  below : (row : ℕ) → row < l.low → key_number (row_key l.places (typed_row row l.columns)) <ℤ l.number;
  above : (row : ℕ) → l.high ≤ row → row < l.rows → l.number <ℤ key_number (row_key l.places (typed_row row l.columns));
}

abbrev pub decreases-loop-low : goal.decreases-loop-low
decreases-loop-low l = l.high - l.low
