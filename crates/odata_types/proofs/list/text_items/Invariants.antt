use Rattle.std.proofs.Common.{◌≡◌, map, take}
use Rattle.odata_parse.specs.Tree.{literal_view}
use Rattle.typed_trees.specs.TypedTree.{optional_text}
use Rattle.odata_types.specs.Typing.{text_item}
use Rattle.odata_types.proofs.list.text_items.Given as goal

abbrev pub invariant-loop-item : goal.invariant-loop-item
invariant-loop-item l = map optional_text l.values.items ≡ map text_item (map literal_view (take l.item-index l.items))
