-- The numbers left are after those so far.
use Rattle.std.proofs.Common.{◌≡◌, ◌++◌, map, drop}
use Rattle.std.specs.Prelude.{Ok, string_bytes}
use Rattle.odata_types.specs.Columns.{inputs_view}
use Rattle.odata_types.specs.Result.{◌>>=◌}
use Rattle.odata_query.specs.Apply.{places_typing}
use Rattle.odata_query.proofs.group.known_places.Given as goal

abbrev pub invariant-loop-name : goal.invariant-loop-name
invariant-loop-name l = places_typing (inputs_view l.columns) (map string_bytes l.names)
    ≡ (places_typing (inputs_view l.columns) (map string_bytes (drop l.name-index l.names)) >>= λ others. Ok (l.places.items ++ others))
