use Rattle.std.proofs.Common.{◌≡◌, ◌<◌, ℕ, get_or, length, map}
use Rattle.cell_types.specs.Value.{null, value_view}
use Rattle.key_index.specs.Key.{row_key}
use Rattle.key_index.specs.Keys.{typed_row}
use Rattle.key_index.proofs.cells.has_key.Given as goal

-- the values so far are those of the row
abbrev pub invariant-loop-i : goal.invariant-loop-i
invariant-loop-i l = record {
  long : length l.key ≡ length l.places;
  same : (k : ℕ) → k < l.i → get_or (map value_view l.key) k null ≡ get_or (row_key l.places (typed_row l.row l.columns)) k null;
}
