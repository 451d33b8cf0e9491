use Rattle.std.specs.Prelude.{◌≢◌, ◌<◌, ℕ, slice_index_or}
use Rattle.odata_query.specs.declared.aggregate.Aggregate.TheVariants.{Count}
use Rattle.aggregate_rows.proofs.aggregator.place_of.Given as goal

-- none so far is the one asked for
abbrev pub invariant-loop-i : goal.invariant-loop-i
invariant-loop-i l = (j : ℕ) → j < l.i → slice_index_or l.aggregates j Count ≢ l.asked
