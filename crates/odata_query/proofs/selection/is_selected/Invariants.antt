-- The items left decide.
use Rattle.std.proofs.Common.{◌≡◌, map, drop}
use Rattle.std.specs.List.{list_any}
use Rattle.odata_parse.specs.Tree.{select_item_view}
use Rattle.odata_query.specs.Selection.{selects}
use Rattle.odata_query.proofs.selection.is_selected.Given as goal

abbrev pub invariant-loop-item : goal.invariant-loop-item
invariant-loop-item l = list_any (selects l.name) (map select_item_view l.items) ≡ list_any (selects l.name) (map select_item_view (drop l.item-index l.items))
