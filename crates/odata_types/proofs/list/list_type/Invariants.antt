-- The values left decide, with the type so far.
use Rattle.std.proofs.Common.{◌≡◌, map, drop}
use Rattle.odata_parse.specs.Tree.{literal_view}
use Rattle.odata_types.specs.Typing.{list_type}
use Rattle.odata_types.proofs.list.list_type.Given as goal

abbrev pub invariant-loop-item : goal.invariant-loop-item
invariant-loop-item l = list_type l.fn.first (map literal_view l.items) ≡ list_type l.common (map literal_view (drop l.item-index l.items))
