-- The values left are after those so far.
use Rattle.std.proofs.Common.{◌≡◌, ◌++◌, map, drop}
use Rattle.std.specs.Prelude.{Ok}
use Rattle.odata_parse.specs.Tree.{literal_view}
use Rattle.odata_types.specs.Result.{◌>>=◌}
use Rattle.odata_types.specs.Typing.{number_items}
use Rattle.odata_types.proofs.list.number_items.Given as goal

abbrev pub invariant-loop-item : goal.invariant-loop-item
invariant-loop-item l = number_items l.fn.wanted (map literal_view l.items) ≡ (number_items l.fn.wanted (map literal_view (drop l.item-index l.items)) >>= λ others. Ok (l.values.items ++ others))
