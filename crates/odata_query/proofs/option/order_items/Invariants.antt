-- The items left are after those so far.
use Rattle.std.proofs.Common.{◌≡◌, ◌++◌, map, drop}
use Rattle.std.specs.Prelude.{Ok}
use Rattle.odata_parse.specs.Tree.{order_item_view}
use Rattle.odata_types.specs.Columns.{inputs_view}
use Rattle.odata_types.specs.Result.{◌>>=◌}
use Rattle.odata_query.specs.Query.{order_typing, order_view}
use Rattle.odata_query.proofs.option.order_items.Given as goal

abbrev pub invariant-loop-item : goal.invariant-loop-item
invariant-loop-item l = order_typing (inputs_view l.columns) (map order_item_view l.items)
    ≡ (order_typing (inputs_view l.columns) (map order_item_view (drop l.item-index l.items)) >>= λ others. Ok (map order_view l.order.items ++ others))
