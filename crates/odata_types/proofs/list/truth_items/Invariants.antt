use Rattle.std.proofs.Common.{◌≡◌, map, take}
use Rattle.odata_parse.specs.Tree.{literal_view}
use Rattle.odata_types.specs.Typing.{truth_item}
use Rattle.odata_types.proofs.list.truth_items.Given as goal

abbrev pub invariant-loop-item : goal.invariant-loop-item
invariant-loop-item l = l.values.items ≡ map truth_item (map literal_view (take l.item-index l.items))
