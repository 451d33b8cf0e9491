use Rattle.std.proofs.Common.{take}
use Rattle.std.specs.Prelude.{map}
use Rattle.odata_query.specs.Aggregate.{named_view}
use Rattle.aggregate_rows.specs.Gathered.{plain_aggregates, AreOnce}
use Rattle.aggregate_rows.proofs.aggregator.each_once.Given as goal

-- the aggregates so far
abbrev pub invariant-loop-named : goal.invariant-loop-named
invariant-loop-named l = AreOnce (plain_aggregates (map named_view (take l.named-index l.aggregates))) l.once.items l.shown.items
