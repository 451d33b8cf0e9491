use Rattle.std.proofs.Common.{◌≡◌, ◌++◌, [], length, map, take}
use Rattle.query_meaning.specs.Apply.{computed_value}
use Rattle.aggregate_rows.specs.Tallies.{HasSetsMore}
use Rattle.aggregate_rows.proofs.groups.push_results.Given as goal

-- the results of the first aggregates came, and their sets
abbrev pub invariant-loop-aggregate : goal.invariant-loop-aggregate
invariant-loop-aggregate l = record {
  front : take (length l.fn.values) l.values ≡ l.fn.values;
  sets_front : take (length l.fn.sets.items) l.sets.items ≡ l.fn.sets.items;
  values : l.values ≡ l.fn.values ++ map (computed_value []) (take l.aggregate-index l.aggregates);
  sets : HasSetsMore (take l.aggregate-index l.aggregates) l.fn.sets.items l.sets.items;
}
