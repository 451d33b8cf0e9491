-- The pairs left decide.
use Rattle.std.proofs.Common.{◌≡◌, map, drop}
use Rattle.odata_parse.specs.Tree.{key_pair_view}
use Rattle.odata_query.specs.Key.{value_under}
use Rattle.odata_query.proofs.key.value_under.Given as goal

abbrev pub invariant-loop-pair : goal.invariant-loop-pair
invariant-loop-pair l = value_under (map key_pair_view l.pairs) l.name ≡ value_under (map key_pair_view (drop l.pair-index l.pairs)) l.name
