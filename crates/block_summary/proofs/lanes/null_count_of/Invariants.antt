use Rattle.std.proofs.Common.{◌≡◌, take}
use Rattle.std.specs.List.{count_by}
use Rattle.block_summary.proofs.lanes.null_count_of.Given as goal

abbrev pub invariant-loop-is_null : goal.invariant-loop-is_null
invariant-loop-is_null l = l.count ≡ count_by (λ is_null. is_null) (take l.is_null-index l.nulls)
