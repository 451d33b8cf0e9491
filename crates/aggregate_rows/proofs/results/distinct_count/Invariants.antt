use Rattle.std.proofs.Common.{◌≡◌}
use Rattle.aggregate_rows.proofs.ResultLemmas.{sets_before}
use Rattle.aggregate_rows.proofs.results.distinct_count.Given as goal

-- how many of the first count distinct values
abbrev pub invariant-loop-aggregate : goal.invariant-loop-aggregate
invariant-loop-aggregate l = l.count ≡ sets_before l.aggregate-index l.aggregates
