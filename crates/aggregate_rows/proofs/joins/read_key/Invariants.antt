use Rattle.std.proofs.Common.{◌≡◌, [], map, take}
use Rattle.std.specs.Prelude.{slice_index_or}
use Rattle.cell_types.specs.Value.{value_view}
use Rattle.query_meaning.specs.Apply.{values_at}
use Rattle.aggregate_rows.proofs.joins.read_key.Given as goal

-- the values so far
abbrev pub invariant-loop-place : goal.invariant-loop-place
invariant-loop-place l = map value_view l.key.items ≡ values_at (take l.place-index l.places) (slice_index_or l.columns.rows l.number [])
