-- The items left are after those so far.
use Rattle.std.proofs.Common.{◌≡◌, ◌++◌, [], map, drop}
use Rattle.std.specs.Prelude.{Ok}
use Rattle.odata_parse.specs.Tree.{aggregate_item_view}
use Rattle.odata_types.specs.Columns.{inputs_view}
use Rattle.odata_types.specs.Result.{◌>>=◌}
use Rattle.odata_query.specs.Aggregate.{item_view}
use Rattle.odata_query.specs.Apply.{items_typing}
use Rattle.odata_query.proofs.item.typed_items.Given as goal

abbrev pub invariant-loop-item : goal.invariant-loop-item
invariant-loop-item l = items_typing (inputs_view l.columns) [] (map aggregate_item_view l.items)
    ≡ (items_typing (inputs_view l.columns) (map item_view l.made.items) (map aggregate_item_view (drop l.item-index l.items)) >>= λ others. Ok (map item_view l.made.items ++ others))
