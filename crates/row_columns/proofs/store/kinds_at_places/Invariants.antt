use Rattle.std.proofs.Common.{◌≡◌, map, take}
use Rattle.cell_types.specs.Column.{column_view}
use Rattle.row_columns.specs.Kinds.{kinds_of, of_kind}
use Rattle.row_columns.specs.Picked.{kinds_at}
use Rattle.row_columns.proofs.store.kinds_at_places.Given as goal

-- the kinds of the columns with the first places
abbrev pub invariant-loop-place : goal.invariant-loop-place
invariant-loop-place l = map of_kind l.made.items ≡ kinds_at (take l.place-index l.places) (kinds_of (map column_view l.columns))
