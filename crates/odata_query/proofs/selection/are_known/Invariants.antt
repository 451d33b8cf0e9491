-- The items left decide.
use Rattle.std.proofs.Common.{◌≡◌, map, drop}
use Rattle.std.specs.List.{list_all}
use Rattle.odata_parse.specs.Tree.{select_item_view}
use Rattle.odata_types.specs.Columns.{inputs_view}
use Rattle.odata_query.specs.Selection.{is_known}
use Rattle.odata_query.proofs.selection.are_known.Given as goal

abbrev pub invariant-loop-item : goal.invariant-loop-item
invariant-loop-item l = list_all (is_known (inputs_view l.columns)) (map select_item_view l.items)
    ≡ list_all (is_known (inputs_view l.columns)) (map select_item_view (drop l.item-index l.items))
