use Rattle.std.proofs.Common.{◌≡◌, map, take}
use Rattle.odata_query.specs.Aggregate.{item_view, named_view}
use Rattle.odata_query.specs.Apply.{named_of}
use Rattle.odata_query.proofs.item.named_aggregates.Given as goal

abbrev pub invariant-loop-item : goal.invariant-loop-item
invariant-loop-item l = map named_view l.made.items ≡ map named_of (map item_view (take l.item-index l.items))
