use Rattle.std.proofs.Common.{◌≡◌, ◌++◌, map, take, string_bytes}
use Rattle.odata_query.specs.Aggregate.{named_view}
use Rattle.query_exec.proofs.names.aggregate_names.Given as goal

-- the aliases so far follow
abbrev pub invariant-loop-named : goal.invariant-loop-named
invariant-loop-named l = map string_bytes l.made.items
    ≡ map string_bytes l.initial.made.items ++ map (λ a. a.alias) (map named_view (take l.named-index l.aggregates))
