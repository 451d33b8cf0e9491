use Rattle.std.proofs.Common.{◌≡◌, get_or, map, take}
use Rattle.row_columns.proofs.row_numbers.RowNumbers.picked.Given as goal

-- those of the first places
abbrev pub invariant-loop-place : goal.invariant-loop-place
invariant-loop-place l = l.made.items ≡ map (λ place. get_or l.self place 0) (take l.place-index l.places)
