use Rattle.std.proofs.Common.{◌≡◌, map, take, string_bytes}
use Rattle.query_meaning.specs.Apply.{names_at}
use Rattle.result_rows.proofs.names.picked_names.Given as goal

abbrev pub invariant-loop-place : goal.invariant-loop-place
invariant-loop-place l = map string_bytes l.picked.items ≡ names_at (take l.place-index l.places) (map string_bytes l.names)
