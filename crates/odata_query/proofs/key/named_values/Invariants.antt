-- The values left are after those so far.
use Rattle.std.proofs.Common.{◌≡◌, ◌++◌, map, drop}
use Rattle.std.specs.Prelude.{Ok}
use Rattle.cell_types.specs.Value.{value_view}
use Rattle.odata_parse.specs.Tree.{key_pair_view}
use Rattle.odata_types.specs.Columns.{inputs_view}
use Rattle.odata_types.specs.Result.{◌>>=◌}
use Rattle.odata_query.specs.Key.{named_values}
use Rattle.odata_query.proofs.key.named_values.Given as goal

abbrev pub invariant-loop-place : goal.invariant-loop-place
invariant-loop-place l = named_values (inputs_view l.columns) (map key_pair_view l.pairs) l.places
    ≡ (named_values (inputs_view l.columns) (map key_pair_view l.pairs) (drop l.place-index l.places) >>= λ others. Ok (map value_view l.values.items ++ others))
