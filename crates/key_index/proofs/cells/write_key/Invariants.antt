use Rattle.std.proofs.Common.{◌≡◌, map, take}
use Rattle.cell_types.specs.Value.{value_view}
use Rattle.key_index.specs.Key.{row_key}
use Rattle.key_index.specs.Keys.{typed_row}
use Rattle.key_index.proofs.cells.write_key.Given as goal

-- the values at the places so far
abbrev pub invariant-loop-place : goal.invariant-loop-place
invariant-loop-place l = map value_view l.key.items ≡ row_key (take l.place-index l.places) (typed_row l.row l.columns)
