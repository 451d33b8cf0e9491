use Rattle.std.proofs.Common.{◌≡◌, ◌++◌, ◌+◌, map, take}
use Rattle.row_columns.specs.Numbers.{numbers_from}
use Rattle.aggregate_rows.proofs.groups.shown_places.Given as goal

-- the places of the key, and the first ones after it
abbrev pub invariant-loop-place : goal.invariant-loop-place
invariant-loop-place l = l.places.items ≡ numbers_from 0 l.key_width ++ map (λ place. l.key_width + place) (take l.place-index l.shown)
