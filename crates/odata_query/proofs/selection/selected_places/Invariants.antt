-- The places left are after those so far.
use Rattle.std.proofs.Common.{◌≡◌, ◌++◌, map, drop}
use Rattle.odata_parse.specs.Tree.{select_item_view}
use Rattle.odata_types.specs.Columns.{inputs_view}
use Rattle.odata_query.specs.Selection.{selected_from, selected_places}
use Rattle.odata_query.proofs.selection.selected_places.Given as goal

abbrev pub invariant-loop-place : goal.invariant-loop-place
invariant-loop-place l = selected_places (inputs_view l.columns) (map select_item_view l.items)
    ≡ l.places.items ++ selected_from l.place (inputs_view (drop l.place l.columns)) (map select_item_view l.items)
