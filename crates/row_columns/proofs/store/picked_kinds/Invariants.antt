use Rattle.row_columns.specs.Kinds.{of_kind}
use Rattle.std.proofs.Common.{◌≡◌, map, take}
use Rattle.row_columns.specs.Picked.{kinds_at}
use Rattle.row_columns.proofs.store.picked_kinds.Given as goal

-- the kinds with the first places
abbrev pub invariant-loop-place : goal.invariant-loop-place
invariant-loop-place l = map of_kind l.made.items ≡ kinds_at (take l.place-index l.places) (map of_kind l.kinds)
