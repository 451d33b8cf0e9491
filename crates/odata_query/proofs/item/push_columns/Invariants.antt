use Rattle.std.proofs.Common.{◌≡◌, ◌++◌, map, take}
use Rattle.odata_types.specs.Columns.{inputs_view}
use Rattle.odata_query.specs.Aggregate.{item_view}
use Rattle.odata_query.specs.Apply.{item_column}
use Rattle.odata_query.proofs.item.push_columns.Given as goal

abbrev pub invariant-loop-item : goal.invariant-loop-item
invariant-loop-item l = inputs_view l.columns.items ≡ inputs_view l.fn.columns.items ++ map item_column (map item_view (take l.item-index l.items))
