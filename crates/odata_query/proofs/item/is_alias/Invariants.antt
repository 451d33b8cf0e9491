-- The items left decide.
use Rattle.std.proofs.Common.{◌≡◌, map, drop}
use Rattle.odata_query.specs.Aggregate.{item_view}
use Rattle.odata_query.specs.Apply.{has_alias}
use Rattle.odata_query.proofs.item.is_alias.Given as goal

abbrev pub invariant-loop-item : goal.invariant-loop-item
invariant-loop-item l = has_alias (map item_view l.earlier) l.alias ≡ has_alias (map item_view (drop l.item-index l.earlier)) l.alias
